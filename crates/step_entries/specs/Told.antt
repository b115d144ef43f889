-- Document 01's number and values of the walk's and the step's answers.
use Rattle.std.specs.Prelude.{ℕ, Result, Ok, Err}
use Rattle.index.specs.Refusals.{Outcome, answered, refused}
use Rattle.index.specs.Told.{number}
use Rattle.index.specs.declared.refusal.Refusal.{Refusal}
use Rattle.grid.specs.Steps.{Answer, inside, leaves}
use Rattle.step_entries.specs.declared.answers.Walked.{Walked}
use Rattle.step_entries.specs.declared.answers.Stepped.{Stepped}
use Rattle.step_entries.specs.declared.answers.Stepped.TheVariants.{Inside, Leaves}

-- a number with the new digits, and the carry
abbrev pub walked_told : Result Walked Refusal → Outcome (ℕ × ℕ)
walked_told (Ok w) = answered (w.number, w.carry)
walked_told (Err x) = refused (number x)

abbrev pub stepped_answer : Stepped → Answer
stepped_answer (Inside n t) = inside n t
stepped_answer (Leaves d) = leaves d

abbrev pub stepped_told : Result Stepped Refusal → Outcome Answer
stepped_told (Ok s) = answered (stepped_answer s)
stepped_told (Err x) = refused (number x)
