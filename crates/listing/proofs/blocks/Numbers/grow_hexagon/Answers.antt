-- By the laws of `Levels`.
use Rattle.std.proofs.Common.{refl, arith}
use Rattle.listing.proofs.Levels as levels
use Rattle.listing.proofs.blocks.Numbers.grow_hexagon.Goals as goal

pub loop-init : goal.loop-init
loop-init c = levels.begun _ _ _ 0 refl (omega arith) c.requires.deep c.requires.begun

pub spread-requires : goal.spread-requires
spread-requires c =
    let v = c.loop.invariant in
    (v.one, omega arith, omega arith, (levels.hexagon_room _ _ _ 0 _ _ _ c.requires.room v c.loop-test.true).0)

pub loop-preserved : goal.loop-preserved
loop-preserved c = levels.hexagon_turn _ _ _ 0 _ _ _ c.requires.room c.loop.invariant c.loop-test.true _ c.spread.ensures
