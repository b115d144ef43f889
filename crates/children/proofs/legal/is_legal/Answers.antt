-- By the laws of `Judging`.
use Rattle.std.proofs.Common.{arith, ⊎_elim, inl, inr}
use borrow.Author.Rules.{sfits_of}
use Rattle.index.proofs.Answers.{of_cell}
use Rattle.children.proofs.Judging as judging
use Rattle.children.proofs.Judging.{Judged, Owned}
use Rattle.children.proofs.legal.is_legal.Goals as goal
use Rattle.children.proofs.legal.is_legal.Goals.{In-Ok, After-ancestor-owner, After-rank_of-p}

pub returns-then-target-cursor : goal.returns-then-target-cursor
returns-then-target-cursor c =
    let k = of_cell c.args.cursor.number c.check.result c.in-Ok.y c.in-Ok.is c.check.ensures in
    judging.unfit c.args.cursor c.in-Ok.y _ _ (omega arith) k.1 k.0 c.number-target.ensures.value c.resolution-fine.ensures (⊎_elim inl (λ h. inr (omega arith, h.1)) c.then-target-cursor.either)

owned : (c : After-ancestor-owner) → Owned c.args.cursor c.in-Ok.y c.resolution-fine.result c.ancestor-owner.result
owned c =
    let k = of_cell c.args.cursor.number c.check.result c.in-Ok.y c.in-Ok.is c.check.ensures in
    judging.owned c.args.cursor c.in-Ok.y _ _ (omega arith) k.1 k.0 c.number-target.ensures.value c.resolution-fine.ensures c.if-target-cursor.false c.if-target-own.false
    _ _ c.new_unchecked-coarse.ensures c.ancestor-owner.ensures

pub new-requires : goal.new-requires
new-requires c = (owned (goal.at.new-requires c).After-ancestor-owner).low

pub rank_of-p-requires : goal.rank_of-p-requires
rank_of-p-requires c = let h = (owned (goal.at.rank_of-p-requires c).After-ancestor-owner).above in record { coarse = h.0; owner = h.1 }

judged : (c : After-rank_of-p) → Judged c.args.cursor c.in-Ok.y c.resolution-fine.result c.ancestor-owner.result c.count-total.result c.rank_of-p.result
judged c =
    (owned (goal.at.overflow_sub-total c).After-ancestor-owner).judged _ _ (rw (← c.new.ensures.cell, ← c.new.ensures.target) c.count-total.ensures) c.rank_of-p.ensures

pub overflow_sub-total : goal.overflow_sub-total
overflow_sub-total c = let h = (judged c).under in omega (arith, h)

pub returns-then-total-p : goal.returns-then-total-p
returns-then-total-p c =
    (judged (goal.at.returns-then-total-p c).After-rank_of-p).all_counted _ c.max.ensures c.if-total-p.true _ c.skip_count.result (search sfits_of) c.leading.ensures.value c.skip_count.ensures

pub returns-else-total-p : goal.returns-else-total-p
returns-else-total-p c = (judged (goal.at.returns-else-total-p c).After-rank_of-p).not_counted _ c.max.ensures c.if-total-p.false
