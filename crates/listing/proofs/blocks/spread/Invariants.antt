-- The elements from a to i are copied.
use Rattle.std.proofs.Common.{◌≡◌, ◌-◌}
use Rattle.listing.specs.Copies.{copies}
use Rattle.listing.proofs.blocks.spread.Given as goal

abbrev pub invariant-loop-i : goal.invariant-loop-i
invariant-loop-i l = l.buf ≡ copies l.fn.buf l.a (l.i - l.a) l.d l.s
