-- a byte that is no blank is one more of the word
use Rattle.std.proofs.Common.{◌≢◌, arith}
use Rattle.words.proofs.Scanning.{scans_more}
use Rattle.words.proofs.line.Line.fed.Goals as goal

pub returns : goal.returns
returns c =
    let a = c.args in
    let no_blank : a.b ≢ 32 = λ e. omega arith in
    λ bs s. scans_more a.self a.b bs s c.fed-self.result c.fed-self.ensures no_blank
