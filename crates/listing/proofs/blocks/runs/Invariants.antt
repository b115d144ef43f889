-- j runs are written, and v is the first of the next.
use Rattle.std.proofs.Common.{◌≡◌, ◌+◌, ◌*◌}
use Rattle.listing.specs.Copies.{stairs}
use Rattle.listing.proofs.blocks.runs.Given as goal

abbrev pub invariant-loop-j : goal.invariant-loop-j
invariant-loop-j l = record { next : l.v ≡ l.q + l.j * (8 * l.s); written : l.buf ≡ stairs l.fn.buf l.i l.q l.s l.j }
