-- A digit written: it is there, the others and the bits above the digits are as they were. Assumes nothing.
use Rattle.std.proofs.Common.{◌≡◌, ℕ, suc, ◌+◌, ◌-◌, ◌*◌, ◌/◌, ◌%◌, ◌^◌, ◌<◌, ◌≤◌, sym, ap, ◌∙◌, ⊎_elim, mod-lt, eq-zero-or-pos, pow-suc, div-add-mod', arith, pow-add}
use native.Mathlib.Nat.{div-div-eq-div-mul, mul-add-div_right}
use lib.Arith.{digits_div}
use Rattle.index.specs.Layout.{digit}
use Rattle.index.specs.Written.{Written}
use Rattle.index.proofs.Runs.{place, eights_pos}

abbrev pub set_digit : ℕ → ℕ → ℕ → ℕ
set_digit n r d = n - digit n r * 8 ^ (15 - r) + d * 8 ^ (15 - r)

-- a place finer than 8 ^ e * 8 * q sees only what is below it
fine : (a l e q : ℕ) → 1 ≤ q → (a * (8 ^ e * 8 * q) + l) / q % 8 ≡ l / q % 8
fine a l e q h =
    let s : a * (8 ^ e * 8 * q) ≡ a * 8 ^ e * 8 * q = omega arith in
    rw (s, mul-add-div_right h (a * 8 ^ e * 8) l) (omega arith)

-- a place coarser than p is read through n / p / 8
coarse : (n p e : ℕ) → n / (8 ^ e * 8 * p) ≡ n / p / 8 / 8 ^ e
coarse n p e =
    let s : 8 ^ e * 8 * p ≡ p * 8 * 8 ^ e = omega arith in
    rw s (sym (div-div-eq-div-mul n (p * 8) (8 ^ e)) ∙ ap (λ (x : ℕ). x / 8 ^ e) (sym (div-div-eq-div-mul n p 8)))

places : (a b : ℕ) → a < b → 8 ^ b ≡ 8 ^ (b - a - 1) * 8 * 8 ^ a
places a b h =
    let e : b ≡ suc (b - a - 1) + a = omega arith in
    ap (λ (k : ℕ). 8 ^ k) e ∙ pow-add 8 (suc (b - a - 1)) a ∙ ap (λ (z : ℕ). z * 8 ^ a) (pow-suc 8 (b - a - 1))

-- the digit by powers of eight
digit8 : (n r : ℕ) → digit n r ≡ n / 8 ^ (15 - r) % 8
digit8 n r = rw (place (15 - r))

module _ (n r d : ℕ) (hd : d < 8) where
  p : ℕ
  p = 8 ^ (15 - r)

  h : ℕ
  h = n / 8 ^ (15 - r) / 8

  l : ℕ
  l = n % 8 ^ (15 - r)

  l_lt : l < p
  unfolding l p
  l_lt = mod-lt n (eights_pos (15 - r))

  whole : n ≡ (h * 8 + digit n r) * p + l
  unfolding h l p
  whole =
      let a : n / 8 ^ (15 - r) ≡ n / 8 ^ (15 - r) / 8 * 8 + digit n r = rw digit8 (sym (div-add-mod' (n / 8 ^ (15 - r)) 8)) in
      sym (rw a at (div-add-mod' n (8 ^ (15 - r))))

  whole_set : set_digit n r d ≡ (h * 8 + d) * p + l
  unfolding p
  whole_set = omega (arith, whole)

  quotient : set_digit n r d / 8 ^ (15 - r) ≡ h * 8 + d
  unfolding p
  quotient = rw whole_set (digits_div (h * 8 + d) l_lt)

  above : set_digit n r d / 8 ^ (15 - r) / 8 ≡ n / 8 ^ (15 - r) / 8
  unfolding h
  above = rw quotient (omega arith)

  set_upper : 1 ≤ r → r ≤ 15 → set_digit n r d / 2 ^ 45 ≡ n / 2 ^ 45
  set_upper g u =
      let e : 8 ^ 15 ≡ 8 ^ (15 - (15 - r) - 1) * 8 * 8 ^ (15 - r) = places (15 - r) 15 (omega arith) in
      rw e (coarse _ _ _ ∙ ap (λ (x : ℕ). x / 8 ^ (15 - (15 - r) - 1)) above ∙ sym (coarse _ _ _))

  set_there : digit (set_digit n r d) r ≡ d
  set_there = rw (digit8 (set_digit n r d) r, quotient) (omega arith)

  set_coarser : (s : ℕ) → s < r → r ≤ 15 → digit (set_digit n r d) s ≡ digit n s
  set_coarser s t u =
      let e = places (15 - r) (15 - s) (omega arith) in
      rw (digit8 (set_digit n r d) s, digit8 n s, e) (ap (λ (x : ℕ). x % 8) (coarse _ _ _ ∙ ap (λ (x : ℕ). x / 8 ^ (15 - s - (15 - r) - 1)) above ∙ sym (coarse _ _ _)))

  set_finer : (s : ℕ) → r < s → s ≤ 15 → digit (set_digit n r d) s ≡ digit n s
  unfolding p
  set_finer s t u =
      let q : ℕ = 8 ^ (15 - s) in
      let e : 8 ^ (15 - r) ≡ 8 ^ (15 - r - (15 - s) - 1) * 8 * q = places (15 - s) (15 - r) (omega arith) in
      let f : (a : ℕ) → (a * 8 ^ (15 - r) + l) / q % 8 ≡ l / q % 8 = λ a. rw e (fine a l (15 - r - (15 - s) - 1) q (eights_pos (15 - s))) in
      rw (digit8 (set_digit n r d) s, digit8 n s) (ap (λ (x : ℕ). x / q % 8) whole_set ∙ f (h * 8 + d) ∙ sym (ap (λ (x : ℕ). x / q % 8) whole ∙ f (h * 8 + digit n r)))

  pub set_written : 1 ≤ r → r ≤ 15 → Written n r d (set_digit n r d)
  set_written g u =
      record {
        upper = set_upper g u;
        there = set_there;
        other = λ s a b ne. ⊎_elim (λ (z : s - r ≡ 0). set_coarser s (below s z ne) u) (λ (z : 0 < s - r). set_finer s (omega arith) b) (eq-zero-or-pos (s - r));
      }
    where
      below : (s : ℕ) → s - r ≡ 0 → (s ≡ r → ⊥) → s < r
      below s z ne = omega arith

  pub set_room : digit n r * 8 ^ (15 - r) ≤ n
  unfolding p
  set_room = omega (arith, whole)

  pub set_fits : 1 ≤ r → r ≤ 15 → n < 2 ^ 64 → set_digit n r d < 2 ^ 64
  set_fits g u f = bound (set_digit n r d) n (set_upper g u) f
    where
      bound : (a b : ℕ) → a / 2 ^ 45 ≡ b / 2 ^ 45 → b < 2 ^ 64 → a < 2 ^ 64
      bound a b e h = omega arith
