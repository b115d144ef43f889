-- By the laws of `Levels`.
use Rattle.std.proofs.Common.{◌≡◌, ◌+◌, refl, arith}
use Rattle.listing.proofs.Levels as levels
use Rattle.listing.proofs.blocks.Numbers.grow_pentagon.Goals as goal

pub loop-init : goal.loop-init
loop-init c = levels.begun _ _ _ 41 refl (omega arith) (omega (arith, c.requires.deep)) c.requires.begun

-- at a turn
pub spread-requires : goal.spread-requires
spread-requires c = levels.copy_asked _ _ _ _ _ _ _ c.requires.room c.loop.invariant c.loop-test.true _ _ _ _ (omega arith) (omega arith) (omega arith) (omega arith) (omega arith)

pub spread-requires-in-loop : goal.spread-requires-in-loop
spread-requires-in-loop c = levels.copy_asked _ _ _ _ _ _ _ c.requires.room c.loop.invariant c.loop-test.true _ _ _ _ (omega arith) (omega arith) (omega arith) (omega arith) (omega arith)

pub spread-requires-in-loop-2 : goal.spread-requires-in-loop-2
spread-requires-in-loop-2 c = levels.copy_asked _ _ _ _ _ _ _ c.requires.room c.loop.invariant c.loop-test.true _ _ _ _ (omega arith) (omega arith) (omega arith) (omega arith) (omega arith)

pub loop-preserved : goal.loop-preserved
loop-preserved c = levels.pentagon_turn _ _ _ _ _ _ _ c.requires.room c.loop.invariant c.loop-test.true _ _ _ c.spread.ensures c.spread-in-loop.ensures c.spread-in-loop-2.ensures

-- past the last
pub returns : goal.returns
returns c =
    let z : c.loop.counter + 1 ≡ c.args.self.levels = omega (arith, c.loop.auto, c.loop-test.false, c.requires.deep) in
    let r = levels.pentagon_last _ _ _ _ _ _ _ c.requires.room c.loop.invariant z in
    let e = levels.pentagon_blocks _ _ _ _ _ _ _ c.requires.room c.loop.invariant (omega (arith, z)) _ c.spread-2.ensures in
    rw r.0 at e
