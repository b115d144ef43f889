-- Where no test refuses the number it is valid.
use Rattle.std.proofs.Common.{◌∙◌}
use Rattle.index.proofs.Rules.{number_answered}
use Rattle.index.proofs.Validity.{accepted_valid}
use Rattle.index.proofs.raw.checked.Goals as goal

pub new_unchecked-requires : goal.new_unchecked-requires
new_unchecked-requires c = accepted_valid c.args.n (c.requires.1 ∙ number_answered c.args.n c.args.k c.if-k-eq0.true)
