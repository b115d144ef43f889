-- A number with other used digits: where the number it is made of is a cell, it is the same base cell and the new digits, packed.
-- Assumes nothing.
use Rattle.std.proofs.Common.{◌≡◌, ℕ, zero, suc, ◌*◌, ◌/◌, ◌%◌, ◌^◌, ◌<◌, ◌≤◌, List, ◌∷◌, sym, refl, ap, ◌∙◌, subst, ap₂, arith}
use native.Mathlib.Nat.{div-div-eq-div-mul, le_step}
use Rattle.index.specs.Layout.{digit, top_bit, mode_of, reserved_of, res_of, base_of, Valid}
use Rattle.index.specs.View.{used, pack}
use Rattle.index.specs.Written.{WithDigits}
use Rattle.index.proofs.View.{packed_of}

pub used_same : (n y k : ℕ) → ((s : ℕ) → 1 ≤ s → s ≤ k → digit y s ≡ digit n s) → used y k ≡ used n k
unfolding used
used_same n y zero h = refl
used_same n y (suc k) h = ap₂ ◌∷◌ (h (suc k) (omega arith) (omega arith)) (used_same n y k (λ s g l. h s g (le_step l)))

-- a field above the digits is read from n / 2 ^ 45
module _ (n y : ℕ) (e : y / 2 ^ 45 ≡ n / 2 ^ 45) where
  upper : (k : ℕ) → y / (2 ^ 45 * k) ≡ n / (2 ^ 45 * k)
  upper k = sym (div-div-eq-div-mul y (2 ^ 45) k) ∙ ap (λ (x : ℕ). x / k) e ∙ div-div-eq-div-mul n (2 ^ 45) k

  pub upper_base : base_of y ≡ base_of n
  upper_base = ap (λ (x : ℕ). x % 128) e

  pub upper_res : res_of y ≡ res_of n
  upper_res = ap (λ (x : ℕ). x % 16) (upper (2 ^ 7))

  pub upper_reserved : reserved_of y ≡ reserved_of n
  upper_reserved = ap (λ (x : ℕ). x % 8) (upper (2 ^ 11))

  pub upper_mode : mode_of y ≡ mode_of n
  upper_mode = ap (λ (x : ℕ). x % 16) (upper (2 ^ 14))

  pub upper_top : top_bit y ≡ top_bit n
  upper_top = ap (λ (x : ℕ). x % 2) (upper (2 ^ 18))

-- a number whose fields and unused digits are those of a cell
pub redrawn_pack : (n : ℕ) (ds : List ℕ) (y : ℕ) → y < 2 ^ 64 → top_bit n ≡ 0 → mode_of n ≡ 1 → reserved_of n ≡ 0 → ((r : ℕ) → res_of n < r → r ≤ 15 → digit n r ≡ 7) → WithDigits n ds y → y ≡ pack (base_of n) ds
redrawn_pack n ds y h t m v q w =
    let up = w.upper in
    let er : res_of y ≡ res_of n = upper_res n y up in
    let rest : (r : ℕ) → res_of y < r → r ≤ 15 → digit y r ≡ 7 = rw er (λ r g l. w.rest r g l ∙ q r g l) in
    let p : pack (base_of y) (used y (res_of y)) ≡ y = packed_of y h (upper_top n y up ∙ t) (upper_mode n y up ∙ m) (upper_reserved n y up ∙ v) rest in
    sym (rw (upper_base n y up, er, w.digits) at p)

pub redrawn_cell : (n : ℕ) (ds : List ℕ) (y : ℕ) → y < 2 ^ 64 → Valid n → WithDigits n ds y → y ≡ pack (base_of n) ds
redrawn_cell n ds y h v w = redrawn_pack n ds y h v.top v.mode v.reserved v.rest w

-- twice
pub redrawn_twice : (n : ℕ) (ds es : List ℕ) (y z : ℕ) → WithDigits n ds y → WithDigits y es z → WithDigits n es z
redrawn_twice n ds es y z a b =
    let e : res_of y ≡ res_of n = upper_res n y a.upper in
    let d = b.digits in
    record {
      upper = b.upper ∙ a.upper;
      digits = rw e at d;
      rest = λ s g l. b.rest s (subst (λ (k : ℕ). k < s) (sym e) g) l ∙ a.rest s g l;
    }
