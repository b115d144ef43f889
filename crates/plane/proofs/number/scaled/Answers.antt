-- Each number on the way fits, and is read back as it is.
use Rattle.std.proofs.Common.{◌≡◌, ◌≤◌, arith, refl}
use lib.IntN.{pos, nat_abs, ◌+ℤ◌, ◌*ℤ◌}
use mir.Syntax.{w32}
use mir.Val.{SFits, to_z}
use mir.Facts.{to_z-of_z, to_z_pos}
use Rattle.plane.proofs.Bounds.{fits, abs_add, abs_mul}
use Rattle.plane.proofs.number.scaled.Goals as goal

pub returns : goal.returns
returns c =
    let factor : to_z w32 c.args.a ≡ pos c.args.a = to_z_pos w32 (omega arith) in
    let product : SFits w32 (pos c.args.a *ℤ c.args.x) = fits (pos c.args.a *ℤ c.args.x) (omega (arith, abs_mul c.args.a c.args.x)) in
    let size : nat_abs (pos c.args.a *ℤ c.args.x +ℤ c.args.y) ≤ 1000000000 = omega (arith, abs_mul c.args.a c.args.x, abs_add (pos c.args.a *ℤ c.args.x) c.args.y) in
    let sum : SFits w32 (pos c.args.a *ℤ c.args.x +ℤ c.args.y) = fits (pos c.args.a *ℤ c.args.x +ℤ c.args.y) (omega (arith, size)) in
    simp (to_z-of_z, c.ranges.x, c.ranges.y, factor, product, sum) (record { is = refl; small = size; fits = sum })
