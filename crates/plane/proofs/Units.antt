-- The direction of a unit vector is that direction, and a point that is neither one nor zero has none. Assumes nothing.
use mathlib.Core.Path.{◌≡◌, refl, sym, ap, ap₂, ◌∙◌, subst}
use mathlib.Core.Logic.{◌↔◌, ◌⊎◌, inl, inr, ⊎_elim}
use mathlib.Core.Bool.{Bool, true, false, cond}
use Prim.Native.Nat.{ℕ, ◌+◌, ◌*◌, ◌/◌, ◌%◌, ◌<◌, ◌≤◌}
use native.Mathlib.Omega.{arith}
use lib.Dec.{T}
use lib.IntN.{ℤ, pos, negsuc}
use lib.Signed.{le_z}
use Rattle.std.proofs.Common.{Option, Some, None}
use Rattle.plane.specs.Directions.{vec, unit}
use Rattle.plane.specs.Points.{lesser, greater, least, largest, normal, Same, value, direction_of}
use Rattle.plane.specs.declared.ijk.IJK.{IJK}
use Rattle.plane.proofs.Every.{at, at_eq}
use Rattle.plane.proofs.Whole.{whole, diffs, pp, np, parts_same}
use Rattle.plane.proofs.Normal.{normal_least}
use Rattle.plane.proofs.Pairs.{triple_path}

-- at least 0
np_zero : (x : ℤ) → np x ≤ pp x → np x ≡ 0
np_zero (pos n) h = refl
np_zero (negsuc n) h = absurd (omega arith)

nonneg : (x : ℤ) → np x ≡ 0 → x ≡ pos (pp x)
nonneg x h = parts_same x (pos (pp x)) (omega arith)

-- least 0 and largest at most 1: bits, not all of them 1
record Bits (x y z : ℤ) : Type 0 where
  i : np x ≡ 0
  j : np y ≡ 0
  k : np z ≡ 0
  below : 4 * pp x + (2 * pp y + pp z) < 7
  i1 : pp x ≤ 1
  j1 : pp y ≤ 1
  k1 : pp z ≤ 1

bits : (x y z : ℤ) → lesser x (lesser y z) ≡ pos 0 → T (le_z (greater x (greater y z)) (pos 1)) → Bits x y z
bits x y z e t =
    let l = simp diffs at (rw (← whole x, ← whole y, ← whole z) at e) in
    let g = simp diffs at (rw (← whole x, ← whole y, ← whole z) at t) in
    let i = np_zero x (omega arith) in
    let j = np_zero y (omega arith) in
    let k = np_zero z (omega arith) in
    record { i = i; j = j; k = k; below = omega arith; i1 = omega arith; j1 = omega arith; k1 = omega arith }

vec_unit : (a b c : ℕ) → a ≤ 1 → b ≤ 1 → c ≤ 1 → vec a b c ≡ unit (4 * a + (2 * b + c))
vec_unit a b c ha hb hc =
    let i : a ≡ (4 * a + (2 * b + c)) / 4 = omega arith in
    let j : b ≡ (4 * a + (2 * b + c)) / 2 % 2 = omega arith in
    let k : c ≡ (4 * a + (2 * b + c)) % 2 = omega arith in
    triple_path _ _ _ _ _ _ (ap pos i) (ap pos j) (ap pos k)

pub small_unit : (n : IJK) → least n ≡ pos 0 → T (le_z (largest n) (pos 1)) → (value n < 7) × (n ≡ unit (value n))
small_unit n e t =
    let b = bits n.i n.j n.k e t in
    let p : n ≡ vec (pp n.i) (pp n.j) (pp n.k) = triple_path _ _ _ _ _ _ (nonneg n.i b.i) (nonneg n.j b.j) (nonneg n.k b.k) in
    subst (λ (m : IJK). (value m < 7) × (m ≡ unit (value m))) (sym p) (b.below, vec_unit (pp n.i) (pp n.j) (pp n.k) b.i1 b.j1 b.k1)

-- what is computed at the seven
pub unit_value : (d : ℕ) → d < 7 → value (normal (unit d)) ≡ d
unit_value = at_eq 7 (λ (d : ℕ). value (normal (unit d))) (λ (d : ℕ). d) tt

unit_small : (d : ℕ) → d < 7 → T (le_z (largest (normal (unit d))) (pos 1))
unit_small = at 7 (λ (d : ℕ). le_z (largest (normal (unit d))) (pos 1)) tt

pub unit_normal : (d : ℕ) → d < 7 → normal (unit d) ≡ unit d
unit_normal d h =
    let r = small_unit (normal (unit d)) (normal_least (unit d)) (unit_small d h) in r.1 ∙ ap unit (unit_value d h)

pub unit_one : (d e : ℕ) → d < 7 → e < 7 → Same (unit d) (unit e) → d ≡ e
unit_one d e hd he s = sym (unit_value d hd) ∙ ap value s ∙ unit_value e he

-- the direction of a point
abbrev answer : Bool → ℕ → Option ℕ
answer b d = cond b (Some d) None

T_true : (b : Bool) → T b → b ≡ true
T_true true t = refl
T_true false t = absurd t

pub found : (t : IJK) (d : ℕ) → d < 7 → Same t (unit d) → direction_of t ≡ Some d
found t d h s =
    ap (λ (n : IJK). answer (le_z (largest n) (pos 1)) (value n)) s
    ∙ ap₂ answer (T_true (le_z (largest (normal (unit d))) (pos 1)) (unit_small d h)) (unit_value d h)

-- a point has a direction, or has none
split : (t : IJK) (b : Bool) → le_z (largest (normal t)) (pos 1) ≡ b → ((d : ℕ) × (d < 7) × Same t (unit d)) ⊎ (direction_of t ≡ None)
split t true e =
    let n = normal t in
    let r = small_unit n (normal_least t) (subst T (sym e) tt) in
    inl (value n, r.0, r.1 ∙ sym (unit_normal (value n) r.0))
split t false e = inr (ap (λ (b : Bool). answer b (value (normal t))) e)

pub found_or_not : (t : IJK) → ((d : ℕ) × (d < 7) × Same t (unit d)) ⊎ (direction_of t ≡ None)
found_or_not t = split t (le_z (largest (normal t)) (pos 1)) refl

pub apart : (w : Option ℕ) (d : ℕ) → w ≡ Some d → w ≡ None → ⊥
apart w d p q = let z : ◌≡◌ {A = ℕ} 0 1 = cc in omega arith

alike : (w : Option ℕ) (d e : ℕ) → w ≡ Some d → w ≡ Some e → d ≡ e
alike w d e p q = cc

pub direction_found : (t : IJK) (d : ℕ) → (direction_of t ≡ Some d) ↔ ((d < 7) × Same t (unit d))
direction_found t d = (
  λ e.
      ⊎_elim
      (λ (w : (e : ℕ) × (e < 7) × Same t (unit e)).
      subst (λ (n : ℕ). (n < 7) × Same t (unit n)) (alike (direction_of t) w.0 d (found t w.0 w.1 w.2) e) (w.1, w.2))
      (λ (n : direction_of t ≡ None). absurd (apart (direction_of t) d e n))
      (found_or_not t),
  λ w. found t d w.0 w.1,
)

pub not_unit : (t : IJK) → (direction_of t ≡ None) ↔ ((d : ℕ) → d < 7 → Same t (unit d) → ⊥)
not_unit t = (
  λ e d h s. apart (direction_of t) d (found t d h s) e,
  λ none. ⊎_elim (λ (w : (d : ℕ) × (d < 7) × Same t (unit d)). absurd (none w.0 w.1 w.2)) (λ (e : direction_of t ≡ None). e) (found_or_not t),
)
