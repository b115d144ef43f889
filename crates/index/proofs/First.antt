-- The first digit that is not 0 by the leading zeros of the 45 digit bits. Assumes nothing.
use Rattle.std.proofs.Common.{◌≡◌, ℕ, zero, suc, ◌+◌, ◌-◌, ◌*◌, ◌/◌, ◌%◌, ◌^◌, ◌<◌, ◌≤◌, cond, eqb, sym, refl, ap, ◌∙◌, subst, ⊎_elim, le_trans, le_refl, lt_of_lt_of_le, le_of_suc-le-suc, not-suc-le-zero, mod-eq_of_lt, lt-suc_self, div-lt_iff_lt-mul, eq-or-lt_of_le, le-div_iff_mul-le, add-one, arith, pow_pos, pow_mono, pow-add, ne_eqb}
use native.Mathlib.Nat.{div-eq_of_lt, le_step}
use native.Mathlib.Decide.{dec_le}
use lib.Pow.{field, mod-mod-pow}
use lib.Count.{count_leading_zeros, leading_length}
use Rattle.index.specs.Layout.{digit, first_of}

-- a digit of n is a digit of its low 45 bits
pub digit_low : (n s : ℕ) → s + 3 ≤ 45 → n / 2 ^ s % 8 ≡ n % 2 ^ 45 / 2 ^ s % 8
digit_low n s h =
    let e : 45 - (3 + s) + (3 + s) ≡ 45 = omega arith in
    let m : n % 2 ^ 45 % 2 ^ (3 + s) ≡ n % 2 ^ (3 + s) = subst (λ (k : ℕ). n % 2 ^ k % 2 ^ (3 + s) ≡ n % 2 ^ (3 + s)) e (mod-mod-pow n (45 - (3 + s)) (3 + s)) in
    sym (field n 3 s) ∙ ap (λ (x : ℕ). x / 2 ^ s) (sym m) ∙ field (n % 2 ^ 45) 3 s

-- the low 45 bits of n, of length m: the leading zeros and m make 64
pub lead : (n : ℕ) → (m : ℕ) × (count_leading_zeros 64 (n % 2 ^ 45) + m ≡ 64) × (m ≤ 45) × (n % 2 ^ 45 < 2 ^ m) × (2 ^ m ≤ 2 * (n % 2 ^ 45) + 1)
lead n =
    let l = leading_length 64 (n % 2 ^ 45) (omega arith) in
    let m : ℕ = l.0 in
    let top : m ≤ 45 = elim (dec_le m 45) [ yes p ↦ p | no f ↦ absurd (f (go m l.3 (dec_le 46 m))) ] in
    (m, l.1, top, l.2, l.3)
  where
    go : (m : ℕ) → 2 ^ m ≤ 2 * (n % 2 ^ 45) + 1 → Dec (46 ≤ m) → m ≤ 45
    go m h (yes p) = absurd (lem m h p)
      where
        lem : (m : ℕ) → 2 ^ m ≤ 2 * (n % 2 ^ 45) + 1 → 46 ≤ m → ⊥
        lem m h p = let q : 2 ^ 46 ≤ 2 ^ m = pow_mono p in omega arith
    go m h (no f) = omega arith

-- all digits above the length are 0
zero_above : (n m r : ℕ) → n % 2 ^ 45 < 2 ^ m → 1 ≤ r → r ≤ 15 → m ≤ 3 * (15 - r) → digit n r ≡ 0
zero_above n m r h l u g =
    digit_low n (3 * (15 - r)) (omega arith)
    ∙ ap (λ (x : ℕ). x % 8) (div-eq_of_lt (lt_of_lt_of_le h (pow_mono g)))

-- the digit that holds the top bit is not 0
top_digit : (n m r : ℕ) → n % 2 ^ 45 < 2 ^ m → 2 ^ m ≤ 2 * (n % 2 ^ 45) + 1 → 1 ≤ r → r ≤ 15 → 3 * (15 - r) < m → m ≤ 3 * (15 - r) + 3 → digit n r ≡ 0 → ⊥
top_digit n m r h k l u g t e =
    let s : ℕ = 3 * (15 - r) in
    let b : n % 2 ^ 45 / 2 ^ s < 8 = (div-lt_iff_lt-mul (pow_pos s)).1 (lt_of_lt_of_le h (le_trans (pow_mono {j = 3 + s} (omega arith)) (subst (λ (x : ℕ). 2 ^ (3 + s) ≤ x) (pow-add 2 3 s) (le_refl _)))) in
    let a : 2 ^ suc s ≤ 2 ^ m = pow_mono g in
    let d : 1 ≤ n % 2 ^ 45 / 2 ^ s = (le-div_iff_mul-le (pow_pos s)).1 (omega arith) in
    let f : n % 2 ^ 45 / 2 ^ s ≡ 0 = sym (mod-eq_of_lt b) ∙ sym (digit_low n s (omega arith)) ∙ e in
    omega arith

first_none : (n k : ℕ) → ((i : ℕ) → i < k → digit n (suc i) ≡ 0) → first_of n k ≡ 0
unfolding first_of
first_none n zero h = refl
first_none n (suc k) h = rw (first_none n k (λ i l. h i (le_step l))) (h k (lt-suc_self k))

first_at : (n k i : ℕ) → i < k → ((j : ℕ) → j < i → digit n (suc j) ≡ 0) → (digit n (suc i) ≡ 0 → ⊥) → first_of n k ≡ digit n (suc i)
unfolding first_of
first_at n zero i l z h = absurd (not-suc-le-zero l)
first_at n (suc k) i l z h =
    ⊎_elim
    (λ (q : i ≡ k). subst (λ (x : ℕ). cond (eqb (first_of n x) 0) (digit n (suc x)) (first_of n x) ≡ digit n (suc i)) q (rw (first_none n i z)))
    (λ p. let e : first_of n k ≡ digit n (suc i) = first_at n k i p z h in rw (e, ne_eqb _ _ h))
    (eq-or-lt_of_le (le_of_suc-le-suc l))

-- what `first_axe` reads: the digit at (z - 19) / 3 + 1, or at k where that lies past k
module _ (n k : ℕ) (l : 1 ≤ k) (u : k ≤ 15) where
  pub beyond : k < (count_leading_zeros 64 (n % 2 ^ 45) - 19) / 3 + 1 → digit n k ≡ first_of n k
  beyond h =
      let w = lead n in
      let z : (i : ℕ) → i < k → digit n (suc i) ≡ 0 = λ i p. zero_above n w.0 (suc i) w.3 (omega arith) (omega arith) (omega arith) in
      zero_above n w.0 k w.3 l u (omega arith) ∙ sym (first_none n k z)

  pub within : (count_leading_zeros 64 (n % 2 ^ 45) - 19) / 3 + 1 ≤ k → digit n ((count_leading_zeros 64 (n % 2 ^ 45) - 19) / 3 + 1) ≡ first_of n k
  within h =
      let w = lead n in
      let a : ℕ = (count_leading_zeros 64 (n % 2 ^ 45) - 19) / 3 in
      let z : (i : ℕ) → i < a → digit n (suc i) ≡ 0 = λ i p. zero_above n w.0 (suc i) w.3 (omega arith) (omega arith) (omega arith) in
      rw add-one (sym (first_at n k a (omega arith) z (top_digit n w.0 (suc a) w.3 w.4 (omega arith) (omega arith) (omega arith) (omega arith))))
