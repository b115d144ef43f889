-- a `-` in front is the sign, any other byte one more of the decimal digits
use Rattle.std.proofs.Common.{arith}
use Rattle.words.proofs.Readings.{reads_minus, reads_more}
use Rattle.words.proofs.word.Word.fed.Goals as goal

pub returns-then-b-eq45 : goal.returns-then-b-eq45
returns-then-b-eq45 c =
    let a = c.args in
    λ bs s.
    reads_minus a.self a.b _ _ bs s c.if-count-eq0.true c.if-b-eq45.true (c.noted-text.ensures bs s.hex.long s.begun) (c.fed-hex.ensures bs s.hex)

pub returns : goal.returns
returns c =
    let a = c.args in
    λ bs s.
    reads_more a.self a.b _ _ bs s _ (λ z e. omega (arith, c.else-count-eq0.either)) c.fed-decimal.ensures (c.noted-text.ensures bs s.hex.long s.begun) (c.fed-hex.ensures bs s.hex)
