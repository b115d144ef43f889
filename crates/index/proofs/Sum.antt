-- The fields of 64 bits by place value: a number is the sum of its fields, and a sum of fields has them. One division at a time:
-- omega stops at several of large numerals together. Assumes nothing.
use Rattle.std.proofs.Common.{◌≡◌, ℕ, ◌+◌, ◌*◌, ◌/◌, ◌%◌, ◌^◌, ◌<◌, ◌≤◌, sym, ap, ◌∙◌, div-add-mod', arith}
use native.Mathlib.Nat.{div-div-eq-div-mul}
use Rattle.index.specs.Layout.{top_bit, mode_of, reserved_of, res_of, base_of}

linear : (n a b c d x y l : ℕ) → n ≡ a * 2 ^ 45 + l → a ≡ b * 128 + x → b ≡ c * 16 + y → c ≡ d * 8 → d ≡ 1 → n ≡ 2 ^ 59 + y * 2 ^ 52 + x * 2 ^ 45 + l
linear n a b c d x y l p q r s t = omega arith

pub sum : (n : ℕ) → n < 2 ^ 64 → top_bit n ≡ 0 → mode_of n ≡ 1 → reserved_of n ≡ 0 → n ≡ 2 ^ 59 + res_of n * 2 ^ 52 + base_of n * 2 ^ 45 + n % 2 ^ 45
sum n h t m v =
    let b : n / 2 ^ 45 / 128 ≡ n / 2 ^ 52 = div-div-eq-div-mul n (2 ^ 45) 128 in
    let c : n / 2 ^ 52 / 16 ≡ n / 2 ^ 56 = div-div-eq-div-mul n (2 ^ 52) 16 in
    let d : n / 2 ^ 56 / 8 ≡ n / 2 ^ 59 = div-div-eq-div-mul n (2 ^ 56) 8 in
    let e : n / 2 ^ 59 / 16 ≡ n / 2 ^ 63 = div-div-eq-div-mul n (2 ^ 59) 16 in
    linear n (n / 2 ^ 45) (n / 2 ^ 52) (n / 2 ^ 56) (n / 2 ^ 59) (base_of n) (res_of n) (n % 2 ^ 45)
    (sym (div-add-mod' n (2 ^ 45)))
    (sym (div-add-mod' (n / 2 ^ 45) 128) ∙ ap (λ (z : ℕ). z * 128 + base_of n) b)
    (sym (div-add-mod' (n / 2 ^ 52) 16) ∙ ap (λ (z : ℕ). z * 16 + res_of n) c)
    (step8 (n / 2 ^ 56) (n / 2 ^ 59) d v)
    (step16 (n / 2 ^ 59) (n / 2 ^ 63) e m t (small n h))
  where
    step8 : (x y : ℕ) → x / 8 ≡ y → x % 8 ≡ 0 → x ≡ y * 8
    step8 x y p q = omega arith

    small : (n : ℕ) → n < 2 ^ 64 → n / 2 ^ 63 < 2
    small n h = omega arith

    step16 : (x y : ℕ) → x / 16 ≡ y → x % 16 ≡ 1 → y % 2 ≡ 0 → y < 2 → x ≡ 1
    step16 x y p q r s = omega arith

-- a sum of fields has them
module _ (k b l : ℕ) (hk : k ≤ 15) (hb : b ≤ 127) (hl : l < 2 ^ 45) where
  abbrev n : ℕ
  n = 2 ^ 59 + k * 2 ^ 52 + b * 2 ^ 45 + l

  at45 : n / 2 ^ 45 ≡ 2 ^ 14 + k * 128 + b
  at45 = omega arith

  at52 : n / 2 ^ 52 ≡ 128 + k
  at52 = omega arith

  at56 : n / 2 ^ 56 ≡ 8
  at56 = omega arith

  at59 : n / 2 ^ 59 ≡ 1
  at59 = omega arith

  pub sum_base : base_of n ≡ b
  sum_base = rw at45 (omega arith)

  pub sum_res : res_of n ≡ k
  sum_res = rw at52 (omega arith)

  pub sum_low : n % 2 ^ 45 ≡ l
  sum_low = omega arith

  pub sum_reserved : reserved_of n ≡ 0
  sum_reserved = rw at56

  pub sum_mode : mode_of n ≡ 1
  sum_mode = rw at59

  pub sum_top : top_bit n ≡ 0
  sum_top = omega arith

  pub sum_fits : n < 2 ^ 60
  sum_fits = omega arith
