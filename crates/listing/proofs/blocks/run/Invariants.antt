-- The elements before x are written, and v is the next.
use Rattle.std.proofs.Common.{◌≡◌, ◌+◌, ◌*◌}
use Rattle.listing.specs.Copies.{ramp}
use Rattle.listing.proofs.blocks.run.Given as goal

abbrev pub invariant-loop-x : goal.invariant-loop-x
invariant-loop-x l = record { next : l.v ≡ l.q + l.x-index * l.s; written : l.x-items ≡ ramp l.fn.buf 0 l.q l.s l.x-index }
