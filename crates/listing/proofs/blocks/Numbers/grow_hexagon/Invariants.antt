-- All is written to the end of the first block of the level that the counter says.
use Rattle.std.proofs.Common.{false}
use Rattle.listing.proofs.Levels.{Level}
use Rattle.listing.proofs.blocks.Numbers.grow_hexagon.Given as goal

abbrev pub invariant-loop : goal.invariant-loop
invariant-loop l = Level l.fn.self false l.fn.buf l.buf 0 l.size l.step l.counter
