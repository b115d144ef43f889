-- Document 01's value of an answer that is a number.
use Rattle.std.specs.Prelude.{ℕ}
use Rattle.index.specs.Refusals.{Outcome, answered, refused}

-- the number, or 0 where there is none
abbrev pub value_of : Outcome ℕ → ℕ
value_of (answered n) = n
value_of (refused k) = 0
