-- Sizes of whole numbers, for `omega`: that a result fits an i32 is a sum of the operands' sizes. Assumes nothing.
use mathlib.Core.Path.{◌≡◌, refl, sym, ap, ap₂, ◌∙◌, subst}
use mathlib.Core.Logic.{⊎_elim}
use mathlib.Core.Bool.{Bool, true, false, ◌&&◌}
use Prim.Native.Nat.{ℕ, suc, ◌+◌, ◌*◌, ◌<◌, ◌≤◌, ◌/◌, max}
use native.Mathlib.Omega.{arith}
use native.Mathlib.Nat.{mul-le-mul_left}
use lib.Dec.{T, leb→le, eqb, eqb→eq, eqb_refl}
use lib.IntN.{ℤ, pos, negsuc, neg_ℤ, nat_abs, ◌+ℤ◌, ◌-ℤ◌, ◌*ℤ◌}
use lib.Signed.{mag}
use Rattle.std.specs.Int.{int_min}
use Rattle.std.proofs.Common.{rules}
use mir.Syntax.{w32}
use mir.Val.{SFits, to_z, of_z}
use mir.Facts.{to_z-of_z}
use Rattle.plane.specs.Points.{lesser, equal, nearest, minus}
use Rattle.plane.specs.Ranges.{in_range, point_in_range, Within, Broad}
use Rattle.plane.specs.Inside.{Is, Weighs, beside}
use Rattle.plane.specs.declared.ijk.IJK.{IJK}
use Rattle.plane.proofs.Every.{left, right}
use Rattle.plane.proofs.Whole.{pp, np, sign, abs_parts, add_parts, neg_parts, mul_parts, lesser_parts, equal_eq, eq_equal}

mag_abs : (z : ℤ) → mag z ≤ nat_abs z
mag_abs (pos n) = omega arith
mag_abs (negsuc n) = omega arith

pub fits : (z : ℤ) → nat_abs z < 2147483648 → SFits w32 z
fits z h = record { sfits = omega (arith, mag_abs z) }

-- a local holds bits: a number that fits is read back from them
abbrev pub rd : ℤ → ℤ
rd z = to_z w32 (of_z w32 z)

-- the machine compares bits
iff_same : (a b : Bool) → (T a → T b) → (T b → T a) → a ≡ b
iff_same true true f g = refl
iff_same true false f g = absurd (f tt)
iff_same false true f g = absurd (g tt)
iff_same false false f g = refl

pub equal_bits : (x y : ℤ) → SFits w32 x → SFits w32 y → eqb (of_z w32 x) (of_z w32 y) ≡ equal x y
equal_bits x y fx fy =
    iff_same (eqb (of_z w32 x) (of_z w32 y)) (equal x y)
    (λ t. eq_equal x y (sym (to_z-of_z fx) ∙ ap (to_z w32) (eqb→eq (of_z w32 x) (of_z w32 y) t) ∙ to_z-of_z fy))
    (λ t. subst (λ (z : ℤ). T (eqb (of_z w32 x) (of_z w32 z))) (equal_eq x y t) (eqb_refl (of_z w32 x)))

-- so do the components of a point
pub record Held (p : IJK) : Type 0 where
  pub i : SFits w32 p.i
  pub j : SFits w32 p.j
  pub k : SFits w32 p.k

-- a difference, read back
pub less_read : (x y : ℤ) → SFits w32 x → SFits w32 y → SFits w32 (x -ℤ y) → rd (rd x -ℤ rd y) ≡ x -ℤ y
less_read x y fx fy f = ap rd (ap₂ ◌-ℤ◌ (to_z-of_z fx) (to_z-of_z fy)) ∙ to_z-of_z f

-- what `scaled` gives, read back
pub scaled_read : (a : ℕ) (x y r : ℤ) → SFits w32 x → SFits w32 y → Is (pos a *ℤ rd x +ℤ rd y) 1000000000 r → rd r ≡ pos a *ℤ x +ℤ y
scaled_read a x y r fx fy e = to_z-of_z e.fits ∙ e.is ∙ ap₂ (λ (u v : ℤ). pos a *ℤ u +ℤ v) (to_z-of_z fx) (to_z-of_z fy)

pub abs_add : (x y : ℤ) → nat_abs (x +ℤ y) ≤ nat_abs x + nat_abs y
abs_add x y =
    ⊎_elim (λ (s : np (x +ℤ y) ≡ 0). omega (arith, add_parts x y, abs_parts x, abs_parts y, abs_parts (x +ℤ y)))
    (λ (s : pp (x +ℤ y) ≡ 0). omega (arith, add_parts x y, abs_parts x, abs_parts y, abs_parts (x +ℤ y)))
    (sign (x +ℤ y))

pub abs_neg : (x : ℤ) → nat_abs (neg_ℤ x) ≡ nat_abs x
abs_neg x = omega (arith, abs_parts x, abs_parts (neg_ℤ x), neg_parts x)

pub abs_sub : (x y : ℤ) → nat_abs (x -ℤ y) ≤ nat_abs x + nat_abs y
abs_sub x y = omega (arith, abs_add x (neg_ℤ y), abs_neg y)

pub abs_mul : (k : ℕ) (x : ℤ) → nat_abs (pos k *ℤ x) ≡ k * nat_abs x
abs_mul k x = omega (arith, abs_parts (pos k *ℤ x), mul_parts k x, ap (λ (n : ℕ). k * n) (abs_parts x))

pub abs_lesser : (x y : ℤ) → nat_abs (lesser x y) ≤ max (nat_abs x) (nat_abs y)
abs_lesser x y =
    ⊎_elim (λ (s : np (lesser x y) ≡ 0). omega (arith, lesser_parts x y, abs_parts x, abs_parts y, abs_parts (lesser x y)))
    (λ (s : pp (lesser x y) ≡ 0). omega (arith, lesser_parts x y, abs_parts x, abs_parts y, abs_parts (lesser x y)))
    (sign (lesser x y))

pub abs_nearest : (n : ℤ) → 7 * nat_abs (nearest n) ≤ nat_abs n + 3
abs_nearest (pos a) = omega arith
abs_nearest (negsuc a) = omega (arith, abs_neg (pos ((suc a + 3) / 7)))

-- of points
pub within_minus : (m n : ℕ) (s t : IJK) → Within m s → Within n t → Within (m + n) (minus s t)
within_minus m n s t a b =
    record {
      i = omega (arith, abs_sub s.i t.i);
      j = omega (arith, abs_sub s.j t.j);
      k = omega (arith, abs_sub s.k t.k);
    }

pub within_beside : (n : ℕ) (o : Bool) (t : IJK) → Within n t → Within n (beside o t)
within_beside n true t w = record { i = w.j; j = w.k; k = w.i }
within_beside n false t w = record { i = w.k; j = w.i; k = w.j }

pub weighs : (l a m n : ℕ) (s t : IJK) → a * m + n ≤ l → Within m s → Within n t → Weighs l a s t
weighs l a m n s t h v w =
    record {
      i = omega (arith, mul-le-mul_left a v.i);
      j = omega (arith, mul-le-mul_left a v.j);
      k = omega (arith, mul-le-mul_left a v.k);
    }

-- a point within the entry range is within its bounds, and so is its IJ form
pub in_range_within : (t : IJK) → T (point_in_range t) → Within 100000000 t
in_range_within t h =
    let a = in_range t.i in
    let b = in_range t.j in
    let c = in_range t.k in
    record {
      i = leb→le (nat_abs t.i) 100000000 (left a (b && c) h);
      j = leb→le (nat_abs t.j) 100000000 (left b c (right a (b && c) h));
      k = leb→le (nat_abs t.k) 100000000 (right b c (right a (b && c) h));
    }

pub within_broad : (m n : ℕ) (t : IJK) → m + m ≤ n → Within m t → Broad n t
within_broad m n t h w = record { i = omega (arith, abs_sub t.i t.k); j = omega (arith, abs_sub t.j t.k) }

-- the machine's lesser of two is the document's
pub min_lesser : (x y : ℤ) → int_min x y ≡ lesser x y
min_lesser x y = search rules
