-- The low bits of the digits against their other bits: which of the two words is the greater, the first digit that is not 0 says. Assumes nothing.
use Rattle.std.proofs.Common.{◌≡◌, ℕ, zero, suc, ◌+◌, ◌-◌, ◌*◌, ◌/◌, ◌^◌, ◌<◌, ◌≤◌, Bool, true, false, cond, ◌&&◌, eqb, ltb, ◌⊎◌, sym, refl, ap, ◌∙◌, inl, inr, ⊎_elim, lt_of_le_of_lt, add-zero, add-suc, mod-lt, eq-zero-or-pos, eq-or-lt_of_le, mul-zero, zero-add, mul-one, arith, le-ltb, lt-ltb, ne_eqb}
use native.Mathlib.Nat.{zero-div}
use lib.Bits.{bit_and, and_le_r}
use Rattle.index.specs.Layout.{res_of, base_of, digit, first_of, is_pentagonal}
use Rattle.index.specs.Check.{some_other}
use Rattle.index.specs.Words.{Each, low}
use Rattle.index.proofs.Runs.{run, run_zero, run_suc}
use Rattle.index.proofs.View.{low_split}
use Rattle.index.proofs.Digitwise.{and8, mask_at, window}
use Rattle.index.proofs.Validity.{sevens_past}

-- the bits of a digit but the lowest
abbrev pub high : ℕ → ℕ
high d = d / 2 * 2

-- the words of the two parts
pub lows : (n b k : ℕ) → k ≡ cond (is_pentagonal b) 1 0 → Each (λ d. cond (is_pentagonal b) (low d) 0) n (bit_and n 5026338869833 * k)
lows n b k e = go (is_pentagonal b) e
  where
    go : (t : Bool) → k ≡ cond t 1 0 → Each (λ d. cond t (low d) 0) n (bit_and n 5026338869833 * k)
    go true e =
        rw (e, mul-one)
        (record {
          short = lt_of_le_of_lt (and_le_r n 5026338869833) (omega arith);
          each = λ r l u. rw (and8 n 5026338869833 (3 * (15 - r)), mask_at 5026338869833 1 tt r l u) (window (λ (a b c : ℕ). bit_and a 1) low tt (n / 2 ^ (3 * (15 - r))));
        })
    go false e = rw (e, mul-zero) (record { short = omega arith; each = λ r l u. rw (zero-div (2 ^ (3 * (15 - r)))) })

pub highs : (n : ℕ) → Each high n (bit_and n 30158033218998)
highs n =
    record {
      short = lt_of_le_of_lt (and_le_r n 30158033218998) (omega arith);
      each = λ r l u. rw (and8 n 30158033218998 (3 * (15 - r)), mask_at 30158033218998 6 tt r l u) (window (λ (a b c : ℕ). bit_and a 6) high tt (n / 2 ^ (3 * (15 - r))));
    }

-- the run of one more digit
longer : (f : ℕ → ℕ) (n y : ℕ) → Each f n y → (k : ℕ) → suc k ≤ 15 → run y 0 (suc k) ≡ run y 0 k * 8 + f (digit n (suc k))
longer f n y w k h = rw zero-add at (run_suc y 0 k (omega arith)) ∙ ap (λ (x : ℕ). run y 0 k * 8 + x) (w.each (suc k) (omega arith) h)

-- the run of all digits
all_run : (y : ℕ) → y < 2 ^ 45 → run y 0 15 ≡ y
all_run y h = omega (arith, low_split y 15 (omega arith), run_zero y 15)

-- how the low bits l and the other bits h of some digits lie, where f is the first of the digits that is not 0
abbrev Lie : ℕ → ℕ → ℕ → Type 0
Lie l h f = ((l ≡ 0) × (h ≡ 0) × (f ≡ 0)) ⊎ (((h < l) × (f ≡ 1)) ⊎ ((l < h) × (2 ≤ f)))

one_more : (l h f d : ℕ) → d < 8 → Lie l h f → Lie (l * 8 + low d) (h * 8 + high d) (cond (eqb f 0) d f)
one_more l h f d g (inl z) =
    rw (z.0, z.1, z.2)
    (⊎_elim (λ (e : d ≡ 0). inl (omega arith, omega arith, e))
    (λ (p : 0 < d). ⊎_elim (λ (e : 1 ≡ d). inr (inl (omega arith, sym e))) (λ (q : 1 < d). inr (inr (omega arith, q))) (eq-or-lt_of_le p))
    (eq-zero-or-pos d))
one_more l h f d g (inr (inl o)) = inr (inl (omega arith, rw o.1))
one_more l h f d g (inr (inr m)) = inr (inr (omega arith, rw (ne_eqb f 0 (λ e. omega arith)) m.1))

decided : (l h f : ℕ) → Lie l h f → ltb h l ≡ eqb f 1
decided l h f (inl z) = rw (z.0, z.1, z.2)
decided l h f (inr (inl o)) = rw (lt-ltb h l o.0, o.1)
decided l h f (inr (inr m)) = rw (le-ltb h l (omega arith), ne_eqb f 1 (λ e. omega arith))

lies : (n lo hi : ℕ) → Each low n lo → Each high n hi → (k : ℕ) → k ≤ 15 → Lie (run lo 0 k) (run hi 0 k) (first_of n k)
unfolding first_of
lies n lo hi p q zero h = inl (run_zero lo 0, run_zero hi 0, refl)
lies n lo hi p q (suc k) h =
    rw (longer low n lo p k h, longer high n hi q k h) (one_more (run lo 0 k) (run hi 0 k) (first_of n k) (digit n (suc k)) (mod-lt _ (omega arith)) (lies n lo hi p q k (omega arith)))

no_bits : (n y : ℕ) → Each (λ d. 0) n y → (k : ℕ) → k ≤ 15 → run y 0 k ≡ 0
no_bits n y w zero h = run_zero y 0
no_bits n y w (suc k) h = omega (arith, longer (λ d. 0) n y w k h, no_bits n y w k (omega arith))

-- digits that are 7 make no first digit 1
past_sevens : (n k : ℕ) → ((r : ℕ) → k < r → r ≤ 15 → digit n r ≡ 7) → (i : ℕ) → k + i ≤ 15 → eqb (first_of n (k + i)) 1 ≡ eqb (first_of n k) 1
unfolding first_of
past_sevens n k rest zero h = rw add-zero
past_sevens n k rest (suc i) h =
    let ih = past_sevens n k rest i (omega arith) in
    rw (add-suc, rest (suc (k + i)) (omega arith) (omega arith))
    (⊎_elim
    (λ (z : first_of n (k + i) ≡ 0). rw (z, ← ih, z))
    (λ (p : 0 < first_of n (k + i)). rw (ne_eqb (first_of n (k + i)) 0 (λ e. omega arith)) ih)
    (eq-zero-or-pos (first_of n (k + i))))

-- the last test of the check, where the unused digits are 7
pub first_is_one : (n b lo hi : ℕ) → b ≡ base_of n → Each (λ d. cond (is_pentagonal b) (low d) 0) n lo → Each high n hi → some_other n ≡ false →
    ltb hi lo ≡ is_pentagonal (base_of n) && eqb (first_of n (res_of n)) 1
first_is_one n b lo hi eb p q g = go (is_pentagonal (base_of n)) (rw eb at p)
  where
    go : (t : Bool) → Each (λ d. cond t (low d) 0) n lo → ltb hi lo ≡ t && eqb (first_of n (res_of n)) 1
    go true p =
        let e : res_of n + (15 - res_of n) ≡ 15 = omega arith in
        let w = rw (all_run lo p.short, all_run hi q.short) at (lies n lo hi p q 15 (omega arith)) in
        decided lo hi (first_of n 15) w ∙ (rw e at (past_sevens n (res_of n) (sevens_past n g) (15 - res_of n) (omega arith)))
    go false p = le-ltb hi lo (omega (arith, all_run lo p.short, no_bits n lo p 15 (omega arith)))
