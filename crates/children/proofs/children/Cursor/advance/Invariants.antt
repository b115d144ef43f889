use Rattle.children.proofs.Rounds.{Kept}
use Rattle.children.proofs.children.Cursor.advance.Given as goal

abbrev pub invariant-loop-r : goal.invariant-loop-r
invariant-loop-r l = Kept l.self.number l.self.skip l.self.own l.self.target l.bits l.r
