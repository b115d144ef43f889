-- Each difference fits, and is read back as it is.
use Rattle.std.proofs.Common.{arith, ap₂}
use borrow.Author.Rules.{sfits_of}
use lib.IntN.{◌-ℤ◌}
use mir.Syntax.{w32}
use mir.Val.{SFits}
use Rattle.plane.specs.Points.{pair}
use Rattle.plane.proofs.Bounds.{fits, less_read}
use Rattle.plane.proofs.ijk.to_ij.Goals as goal

pub returns : goal.returns
returns c =
    let p = c.args.p in
    let fi : SFits w32 p.i = search sfits_of in
    let fj : SFits w32 p.j = search sfits_of in
    let fk : SFits w32 p.k = search sfits_of in
    ap₂ pair (less_read p.i p.k fi fk (fits (p.i -ℤ p.k) (omega (arith, c.requires)))) (less_read p.j p.k fj fk (fits (p.j -ℤ p.k) (omega (arith, c.requires))))
