-- By the laws of `Shifts`: what is deleted is found from above, and is enough.
use Rattle.std.proofs.Common.{◌≡◌, ◌-◌, ◌+◌, sym, ap, ◌∙◌, arith}
use Rattle.index.specs.Layout.{res_of}
use Rattle.descent.specs.Descendants.{pentagon}
use Rattle.descent.proofs.Shifts.{Shifted, stage_first, stage_next, stage_last, none_deleted}
use Rattle.ranks.proofs.rank.with_deleted.Goals as goal
use Rattle.ranks.proofs.rank.with_deleted.Goals.{After-is_pentagon, After-loop-deleted}

kind : (c : After-is_pentagon) → c.is_pentagon.result ≡ pentagon c.args.d.now.cell
kind c = c.is_pentagon.ensures ∙ ap pentagon c.cell.ensures

pub returns-then-not-is_pentagon : goal.returns-then-not-is_pentagon
returns-then-not-is_pentagon c = none_deleted _ _ _ (omega arith) c.requires (rw (kind (goal.at.returns-then-not-is_pentagon c).After-is_pentagon) at c.then-not-is_pentagon.either)

pub loop-deleted-init : goal.loop-deleted-init
loop-deleted-init c = stage_first _ _ _ _ (sym (kind (goal.at.loop-deleted-init c).After-is_pentagon) ∙ c.if-not-is_pentagon.false) c.requires (rw c.steps-m.ensures.value at c.sevens.ensures)

pub loop-deleted-preserved : goal.loop-deleted-preserved
loop-deleted-preserved c = stage_next _ c.args.p c.loop-deleted.deleted (omega arith) c.loop-deleted-test.true c.loop-deleted.invariant

last : (c : After-loop-deleted) → Shifted (pentagon c.args.d.now.cell) (c.args.d.now.target - res_of c.args.d.now.cell) c.args.p (c.args.p + c.loop-deleted.deleted)
last c =
    stage_last _ _ c.args.p c.loop-deleted.deleted (sym (kind (goal.at.overflow_add-result c).After-is_pentagon) ∙ c.if-not-is_pentagon.false) (omega arith) (omega arith) c.loop-deleted-test.false c.loop-deleted.invariant

pub overflow_add-result : goal.overflow_add-result
overflow_add-result c = omega (arith, (last c).1)

pub returns : goal.returns
returns c = last c
