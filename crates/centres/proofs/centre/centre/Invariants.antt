-- p is the centre of the digits before r.
use Rattle.std.proofs.Common.{◌≡◌, ◌+◌, ◌-◌, ◌≤◌}
use Rattle.plane.specs.Strings.{centre}
use Rattle.index.specs.View.{used}
use Rattle.centres.proofs.centre.centre.Given as goal

abbrev pub invariant-loop-r : goal.invariant-loop-r
invariant-loop-r l = record { place : l.r ≤ l.k + 1; is : l.p ≡ centre (used l.fn.c (l.r - 1)) }
