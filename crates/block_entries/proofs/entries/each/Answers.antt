-- By the laws of `Fills`.
use Rattle.std.proofs.Common.{arith}
use Rattle.block_entries.proofs.Fills as fills
use Rattle.block_entries.proofs.entries.each.Goals as goal

pub returns-then-values-n : goal.returns-then-values-n
returns-then-values-n g c entry h = fills.no_room entry _ _ _ c.then-values-n.either

pub loop-i-init : goal.loop-i-init
loop-i-init g c entry h = fills.begin entry _ _ _

pub loop-i-preserved : goal.loop-i-preserved
loop-i-preserved g c entry h =
    fills.again entry _ _ _ c.if-values-n.false c.if-refusals-n.false _ _ _ (c.loop-i.invariant entry h) _ _ _ c.loop-i-test.true
    (h _ _ (omega arith) c.f.ensures) c.written-value.ensures.value c.written-value.ensures.refusal

pub returns : goal.returns
returns g c entry h = fills.end entry _ _ _ c.if-values-n.false c.if-refusals-n.false _ _ _ (c.loop-i.invariant entry h) (omega arith)
