use Rattle.words.proofs.Scanning.{empty_words, some_words}
use Rattle.words.proofs.line.Line.is_empty.Goals as goal

pub returns-then-self-eq0 : goal.returns-then-self-eq0
returns-then-self-eq0 c =
    λ bs s. rw (c.is_empty.ensures, c.text.ensures _ s.next) (empty_words c.args.self.now bs s c.if-self-eq0.true)

pub returns-else-self-eq0 : goal.returns-else-self-eq0
returns-else-self-eq0 c = λ bs s. some_words c.args.self.now bs s c.if-self-eq0.false
