-- By the laws of `Start`.
use Rattle.std.proofs.Common.{arith}
use Rattle.descent.proofs.Start.{Opened, opened}
use Rattle.descent.proofs.descent.Descent.first.Goals as goal
use Rattle.descent.proofs.descent.Descent.first.Goals.{After-place-span}

-- what the numbers of the body come to
steps : (c : After-place-span) → Opened c.args.self.now.cell c.args.self.now.target c.resolution.result c.place-unit.result c.place-span.result
steps c =
    opened _ _ (omega arith) c.number-n.ensures.valid c.args.self.now.finer c.place-unit.ensures.bound _ _ _ c.resolution.ensures c.place-unit.ensures.value c.place-span.ensures.value

pub overflow_sub-cleared : goal.overflow_sub-cleared
overflow_sub-cleared c = (steps c).order

pub overflow_sub-cleared-2 : goal.overflow_sub-cleared-2
overflow_sub-cleared-2 c = rw c.number-n.ensures.value (steps c).less

pub returns-clause-value : goal.returns-clause-value
returns-clause-value c = rw (c.number-n.ensures.value, c.steps.ensures.value, ← c.resolution.ensures) (steps (goal.at.returns-clause-value c).After-place-span).first
