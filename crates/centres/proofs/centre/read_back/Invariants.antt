-- By the loop's laws in `Reading`: from the number that was begun with and the point in normal form.
use Rattle.centres.proofs.Reading.{Reading}
use Rattle.centres.proofs.centre.read_back.Given as goal

abbrev pub invariant-loop-r : goal.invariant-loop-r
invariant-loop-r l = Reading l.initial.n l.fn.length l.initial.q l.n l.r l.q
