-- `deleted` is 1 + 7 + .. , and enough.
use Rattle.std.proofs.Common.{◌-◌}
use Rattle.index.specs.Layout.{res_of}
use Rattle.descent.proofs.Shifts.{Stage}
use Rattle.ranks.proofs.rank.with_deleted.Given as goal

abbrev pub invariant-loop-deleted : goal.invariant-loop-deleted
invariant-loop-deleted l = Stage (l.d.target - res_of l.d.cell) l.p l.deleted

abbrev pub decreases-loop-deleted : goal.decreases-loop-deleted
decreases-loop-deleted l = l.deleted
