-- By the law of `Leads`.
use Rattle.std.proofs.Common.{refl}
use Rattle.children.proofs.Leads.{lead_zeros}
use Rattle.children.proofs.legal.leading.Goals as goal

pub overflow_sub-result-2 : goal.overflow_sub-result-2
overflow_sub-result-2 c = (lead_zeros _ _ _ _ _ c.number.ensures.value c.number-k.ensures.value c.number-k.ensures.bound refl).0

pub returns-clause-value : goal.returns-clause-value
returns-clause-value c = (lead_zeros _ _ _ _ _ c.number.ensures.value c.number-k.ensures.value c.number-k.ensures.bound refl).1
