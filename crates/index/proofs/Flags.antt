-- The marks of the digits that are 7, and the tests of the check on them. Assumes nothing.
use Rattle.std.proofs.Common.{◌≡◌, ℕ, zero, suc, ◌+◌, ◌-◌, ◌*◌, ◌/◌, ◌^◌, ◌<◌, ◌≤◌, Bool, true, false, cond, not, eqb, ltb, ◌⊎◌, sym, refl, ap, ◌∙◌, inl, inr, ⊎_elim, lt_of_le_of_lt, mul-le-mul_right, mod-eq_of_lt, eq-zero-or-pos, eq-or-lt_of_le, pow-suc, zero-add, arith, le-ltb, lt-ltb, ne_eqb, eqb-true}
use native.Mathlib.Decide.{dec_le}
use lib.Bits.{bit_and, and_le_r}
use borrow.Author.Tests.{not-false}
use Rattle.plane.proofs.Every.{at_eq}
use Rattle.index.specs.Layout.{digit, res_of}
use Rattle.index.specs.Check.{some, some_seven, some_other}
use Rattle.index.specs.Words.{Each, mark, ones}
use Rattle.index.proofs.Runs.{run, run_zero, run_suc}
use Rattle.index.proofs.View.{low_split}
use Rattle.index.proofs.Digitwise.{and8, shr_swap, mask_at, window}

pub marked : (n : ℕ) → Each mark n (bit_and (bit_and (bit_and n (n / 2 ^ 1)) (n / 2 ^ 2)) 5026338869833)
marked n =
    record {
      short = lt_of_le_of_lt (and_le_r (bit_and (bit_and n (n / 2 ^ 1)) (n / 2 ^ 2)) 5026338869833) (omega arith);
      each = λ r l u.
          let p : ℕ = 3 * (15 - r) in
          rw (and8 (bit_and (bit_and n (n / 2 ^ 1)) (n / 2 ^ 2)) 5026338869833 p, and8 (bit_and n (n / 2 ^ 1)) (n / 2 ^ 2) p, and8 n (n / 2 ^ 1) p, shr_swap n 1 p, shr_swap n 2 p, mask_at 5026338869833 1 tt r l u)
          (window (λ (a b c : ℕ). bit_and (bit_and (bit_and a b) c) 1) mark tt (n / 2 ^ p));
    }

pub ones_shifted : (r : ℕ) → r ≤ 15 → 5026338869833 / 2 ^ (3 * r) ≡ ones (15 - r)
unfolding ones
ones_shifted r h = at_eq 16 (λ (k : ℕ). 5026338869833 / 2 ^ (3 * k)) (λ (k : ℕ). ones (15 - k)) tt r (omega arith)

ones_lt : (k : ℕ) → ones k < 8 ^ k
unfolding ones
ones_lt zero = omega arith
ones_lt (suc k) = omega (arith, ones_lt k, pow-suc 8 k)

mark_cases : (d : ℕ) → ((eqb d 7 ≡ true) × (mark d ≡ 1)) ⊎ ((eqb d 7 ≡ false) × (mark d ≡ 0))
mark_cases d = go (eqb d 7)
  where
    go : (t : Bool) → ((t ≡ true) × (cond {A = ℕ} t 1 0 ≡ 1)) ⊎ ((t ≡ false) × (cond {A = ℕ} t 1 0 ≡ 0))
    go true = inl (refl, refl)
    go false = inr (refl, refl)

module _ (n s : ℕ) (m : Each mark n s) where
  -- one of the used digits is 7 where their run of marks is not 0
  seven_run : (k : ℕ) → k ≤ 15 → some (λ r. eqb (digit n r) 7) k ≡ not (eqb (run s 0 k) 0)
  unfolding some
  seven_run zero h = rw (run_zero s 0)
  seven_run (suc k) h =
      let e : run s 0 (suc k) ≡ run s 0 k * 8 + mark (digit n (suc k)) = rw zero-add at (run_suc s 0 k (omega arith)) ∙ ap (λ (x : ℕ). run s 0 k * 8 + x) (m.each (suc k) (omega arith) h) in
      rw (seven_run k (omega arith), e)
      (⊎_elim
      (λ (z : run s 0 k ≡ 0). rw z (⊎_elim (λ q. rw q.0) (λ q. rw q.0) (mark_cases (digit n (suc k)))))
      (λ (l : 0 < run s 0 k). rw (ne_eqb (run s 0 k) 0 (omega arith), ne_eqb (run s 0 k * 8 + mark (digit n (suc k))) 0 (omega arith)))
      (eq-zero-or-pos (run s 0 k)))

  -- one of the digits past r is not 7 where their run of marks is less than all ones
  other_run : (r k : ℕ) → r + k ≤ 15 → (run s r k ≤ ones k) × (some (λ i. not (eqb (digit n (r + i)) 7)) k ≡ ltb (run s r k) (ones k))
  unfolding some ones
  other_run r zero h = (rw (run_zero s r) (omega arith), rw (run_zero s r))
  other_run r (suc k) h =
      let i = other_run r k (omega arith) in
      let e : run s r (suc k) ≡ run s r k * 8 + mark (digit n (r + suc k)) = run_suc s r k h ∙ ap (λ (x : ℕ). run s r k * 8 + x) (m.each (r + suc k) (omega arith) h) in
      let d : ℕ = digit n (r + suc k) in
      let w : mark d ≤ 1 = ⊎_elim (λ q. omega (arith, q.1)) (λ q. omega (arith, q.1)) (mark_cases d) in (
        rw e (omega (arith, i.0)),
        rw (i.1, e)
            (⊎_elim
            (λ (z : run s r k ≡ ones k). rw (z, le-ltb (ones k) (ones k) (omega arith)) (⊎_elim
            (λ q. rw (q.0, le-ltb (ones k * 8 + 1) (ones k * 8 + 1) (omega arith)))
            (λ q. rw (q.0, lt-ltb (ones k * 8 + 0) (ones k * 8 + 1) (omega arith))) (mark_cases d)))
            (λ (l : run s r k < ones k). rw (lt-ltb (run s r k) (ones k) l, lt-ltb (run s r k * 8 + mark d) (ones k * 8 + 1) (omega arith)))
            (eq-or-lt_of_le i.0)),
      )

  -- the two tests of the check
  module _ (u : ℕ) (eu : u ≡ ones (15 - res_of n)) where
    abbrev r : ℕ
    r = res_of n

    whole : s ≡ run s 0 r * 8 ^ (15 - r) + run s r (15 - r)
    whole = sym (mod-eq_of_lt m.short) ∙ low_split s r (omega arith)

    others : (run s r (15 - r) ≤ ones (15 - r)) × (some_other n ≡ ltb (run s r (15 - r)) (ones (15 - r)))
    others = other_run r (15 - r) (omega arith)

    none : s ≤ u → run s 0 r ≡ 0
    none l = ⊎_elim (λ z. z) (λ (g : 0 < run s 0 r). absurd (let k : 1 * 8 ^ (15 - r) ≤ run s 0 r * 8 ^ (15 - r) = mul-le-mul_right (8 ^ (15 - r)) g in omega (arith, whole, ones_lt (15 - r)))) (eq-zero-or-pos (run s 0 r))

    rest_of : run s 0 r ≡ 0 → s ≡ run s r (15 - r)
    rest_of z = let w : s ≡ 0 * 8 ^ (15 - r) + run s r (15 - r) = rw z at whole in omega arith

    pub over : ltb u s ≡ some_seven n
    over =
        elim (dec_le s u) [
          | yes h ↦ le-ltb u s h ∙ sym (seven_run r (omega arith) ∙ rw (none h))
          | no h ↦ lt-ltb u s (omega arith) ∙ sym (seven_run r (omega arith) ∙ rw (ne_eqb (run s 0 r) 0 (λ z. omega (arith, rest_of z, others.0))))
        ]

    pub under : some_seven n ≡ false → ltb s u ≡ some_other n
    under h =
        let z : run s 0 r ≡ 0 = eqb-true _ _ (not-false _ (sym (seven_run r (omega arith)) ∙ h)) in
        rw (rest_of z, eu) (sym others.1)
