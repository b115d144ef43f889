-- The test is of the normal form, and a normal form with no component above 1 is a unit vector or zero.
use Rattle.std.proofs.Common.{◌≡◌, ◌<◌, Bool, true, sym, ap, ◌∙◌, subst}
use lib.Dec.{T}
use lib.IntN.{ℤ, pos}
use lib.Signed.{le_z}
use mir.Facts.{to_z-of_z}
use Rattle.plane.specs.Directions.{unit}
use Rattle.plane.specs.Points.{normal, largest, value}
use Rattle.plane.specs.declared.ijk.IJK.{IJK}
use Rattle.plane.proofs.Normal.{normal_least}
use Rattle.plane.proofs.Units.{small_unit}
use Rattle.plane.proofs.ijk.direction_of.Goals as goal

-- the test, of the normal form
tested : (p n : IJK) (l : ℤ) (b : Bool) → n ≡ normal p → l ≡ largest n → le_z l (pos 1) ≡ b → le_z (largest (normal p)) (pos 1) ≡ b
tested p n l b en el e = ap (λ (z : ℤ). le_z z (pos 1)) (sym (el ∙ ap largest en)) ∙ e

pub direction_of_unit-requires : goal.direction_of_unit-requires
direction_of_unit-requires c =
    let p = c.args.p in
    let n = c.normalize-n in
    let l = c.largest.ensures in
    subst (λ (m : IJK). (value m < 7) × (m ≡ unit (value m))) (sym n.ensures)
    (small_unit (normal p) (normal_least p) (subst T (sym (tested p n.result c.largest.result true n.ensures l.0 (simp (to_z-of_z, l.1) at c.if-largest-le1.true))) tt))
