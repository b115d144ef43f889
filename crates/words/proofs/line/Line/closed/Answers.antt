-- the word is stored where there is room, and counted
use Rattle.words.specs.Lines.{parts}
use Rattle.words.proofs.Scanning.{holds_more, holds_full}
use Rattle.words.proofs.line.Line.closed.Goals as goal
use Rattle.words.proofs.line.Line.closed.Goals.{then-n-lt9, else-n-lt9}

pub returns-clause-closes : goal.returns-clause-closes
returns-clause-closes c =
    let l = c.args.self in
    let v = c.new-self.result in
    record {
      more = λ ws w s r. elim c.if-n-lt9.branch [ then-n-lt9 b ↦ rw b.self-is (holds_more l v ws w s b.if-n-lt9.true r) | else-n-lt9 b ↦ rw b.self-is (holds_full l v ws w s b.if-n-lt9.false) ];
      fresh = c.new-self.ensures;
    }

pub returns-clause-by_index : goal.returns-clause-by_index
returns-clause-by_index c =
    λ bs s. record { words = (returns-clause-closes c).more (parts bs).ended (parts bs).next s.ended s.next }
