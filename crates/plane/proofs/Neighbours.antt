-- The neighbours in directions 1 to 6 are six different points at distance 1, and all of those; direction 0 gives the point itself. Assumes nothing.
use mathlib.Core.Path.{◌≡◌, sym, ap, ap₂, ◌∙◌, subst}
use Prim.Native.Nat.{ℕ, zero, suc, ◌<◌, min}
use native.Mathlib.Omega.{arith}
use lib.Dec.{T}
use lib.IntN.{ℤ, pos, nat_abs, ◌+ℤ◌, ◌-ℤ◌, +ℤ_idr}
use lib.Signed.{le_z}
use Rattle.plane.specs.Directions.{unit}
use Rattle.plane.specs.Points.{largest, normal, Same, equal, pair, ij, plus, minus, distance, value}
use Rattle.plane.specs.declared.ijk.IJK.{IJK}
use Rattle.plane.specs.declared.ijk.IJ.{IJ}
use Rattle.plane.proofs.Every.{at}
use Rattle.plane.proofs.Whole.{whole, diffs, equal_eq}
use Rattle.plane.proofs.Normal.{normal_least}
use Rattle.plane.proofs.Pairs.{◌⊕◌, ◌⊖◌, ij_plus, ij_minus, ij_same, same_ij}
use Rattle.plane.proofs.Units.{small_unit, unit_normal, unit_one}

pub cancelled : (a b : ℤ) → (a +ℤ b) -ℤ a ≡ b
cancelled a b = rw (← whole a, ← whole b) (simp diffs (omega arith))

module _ (a b c : ℤ) where
  cancel : a +ℤ b ≡ a +ℤ c → b ≡ c
  cancel e =
      let h = simp diffs at (rw (← whole a, ← whole b, ← whole c) at e) in
      rw (← whole b, ← whole c) (simp diffs (omega arith))

  brought : a -ℤ b ≡ c → a ≡ b +ℤ c
  brought e =
      let h = simp diffs at (rw (← whole a, ← whole b, ← whole c) at e) in
      rw (← whole a, ← whole b, ← whole c) (simp diffs (omega arith))

pub neighbour_zero : (t : IJK) → Same (plus t (unit 0)) t
neighbour_zero t = ij_same (plus t (unit 0)) t (ij_plus t (unit 0) ∙ ap₂ pair (+ℤ_idr (ij t).i) (+ℤ_idr (ij t).j))

-- on pairs, for what adds a unit vector to more than a point
pub pair_cancel : (p q r : IJ) → p ⊕ q ≡ p ⊕ r → q ≡ r
pair_cancel p q r e = ap₂ pair (cancel p.i q.i r.i (ap (λ (u : IJ). u.i) e)) (cancel p.j q.j r.j (ap (λ (u : IJ). u.j) e))

pub unit_cancel : (p : IJ) (d e : ℕ) → d < 7 → e < 7 → p ⊕ ij (unit d) ≡ p ⊕ ij (unit e) → d ≡ e
unit_cancel p d e hd he h = unit_one d e hd he (ij_same (unit d) (unit e) (pair_cancel p (ij (unit d)) (ij (unit e)) h))

pub neighbours_differ : (t : IJK) (d e : ℕ) → d < 7 → e < 7 → Same (plus t (unit d)) (plus t (unit e)) → d ≡ e
neighbours_differ t d e hd he s =
    unit_cancel (ij t) d e hd he (sym (ij_plus t (unit d)) ∙ same_ij (plus t (unit d)) (plus t (unit e)) s ∙ ij_plus t (unit e))

-- the distance is that of the unit vector
unit_largest : (d : ℕ) → d < 7 → largest (normal (unit d)) ≡ pos (min d 1)
unit_largest d h = equal_eq (largest (normal (unit d))) (pos (min d 1)) (at 7 (λ (d : ℕ). equal (largest (normal (unit d))) (pos (min d 1))) tt d h)

pub neighbour_distance : (t : IJK) (d : ℕ) → 0 < d → d < 7 → distance (plus t (unit d)) t ≡ pos 1
neighbour_distance t d p h =
    let u = unit d in
    let e : ij (minus (plus t u) t) ≡ ij u = ij_minus (plus t u) t ∙ ap (λ (q : IJ). q ⊖ ij t) (ij_plus t u) ∙ ap₂ pair (cancelled (ij t).i (ij u).i) (cancelled (ij t).j (ij u).j) in
    let m : min d 1 ≡ 1 = omega arith in
    ap largest (ij_same (minus (plus t u) t) u e) ∙ unit_largest d h ∙ ap pos m

-- a point that differs by a unit vector
pub differs : (s t : IJK) (d : ℕ) → Same (minus s t) (unit d) → Same s (plus t (unit d))
differs s t d e =
    let q = sym (ij_minus s t) ∙ same_ij (minus s t) (unit d) e in
    ij_same s (plus t (unit d)) (ap₂ pair (brought (ij s).i (ij t).i (ij (unit d)).i (ap (λ (u : IJ). u.i) q)) (brought (ij s).j (ij t).j (ij (unit d)).j (ap (λ (u : IJ). u.j) q)) ∙ sym (ij_plus t (unit d)))

positive : (d : ℕ) → largest (unit d) ≡ pos 1 → 0 < d
positive zero e = let z : ◌≡◌ {A = ℕ} 0 1 = ap nat_abs e in absurd (omega arith)
positive (suc d) e = omega arith

pub neighbours_all : (s t : IJK) → distance s t ≡ pos 1 → (d : ℕ) × (0 < d) × (d < 7) × Same s (plus t (unit d))
neighbours_all s t e =
    let n = normal (minus s t) in
    let r = small_unit n (normal_least (minus s t)) (subst (λ (z : ℤ). T (le_z z (pos 1))) (sym e) tt) in
    let d = value n in
    (d, positive d (ap largest (sym r.1) ∙ e), r.0, differs s t d (r.1 ∙ sym (unit_normal d r.0)))
