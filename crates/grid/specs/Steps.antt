-- Document 01, 'The step': what a cell and a direction 1 to 6 are answered.
use Rattle.std.specs.Prelude.{true, false, cond, ◌&&◌, List, map, ℕ, Result, Ok, Err, eqb}
use Rattle.plane.specs.Directions.{turns}
use Rattle.index.specs.Layout.{base_of, res_of, is_pentagonal}
use Rattle.index.specs.View.{used, pack, first}
use Rattle.index.specs.Refusals.{Outcome, answered, refused}
use Rattle.index.specs.Told.{number}
use Rattle.index.specs.declared.refusal.Refusal.{Refusal}
use Rattle.walks.specs.Walks.{walked, carry_of}
use Rattle.grid.specs.declared.algo.Stepped.{Stepped}
use Rattle.grid.specs.declared.algo.Stepped.TheVariants.{Inside, Leaves}

pub data Answer : Type 0 where
  inside : ℕ → ℕ → Answer
  leaves : ℕ → Answer

-- a pentagon origin gives refusal 17; origin's first digit 3 turns the result once counter-clockwise, turn number 1; 5 turns it once clockwise,
-- number 5; no other origin reaches this
unfoldable pub out_of_deleted : ℕ → ℕ → List ℕ → Outcome Answer
out_of_deleted b origin new =
    cond (eqb origin 0) (refused 17)
    (cond (eqb origin 3) (answered (inside (pack b (map (turns true 1) new)) 1)) (answered (inside (pack b (map (turns false 1) new)) 5)))

-- a cell and a turn number, 0 unless in a pentagon base cell the new first non-zero digit is 1
unfoldable pub stays_in : ℕ → List ℕ → List ℕ → Outcome Answer
stays_in b old new = cond (is_pentagonal b && eqb (first new) 1) (out_of_deleted b (first old) new) (answered (inside (pack b new) 0))

-- if the carry is still not 0 at the base cell, the answer is Leaves with that direction
unfoldable pub step_of : ℕ → ℕ → Outcome Answer
step_of n way = cond (eqb (carry_of n way) 0) (stays_in (base_of n) (used n (res_of n)) (walked (used n (res_of n)) way)) (answered (leaves (carry_of n way)))

-- the document's values and number of each answer
abbrev pub answer : Stepped → Answer
answer (Inside c turn) = inside c turn
answer (Leaves d) = leaves d

abbrev pub step_told : Result Stepped Refusal → Outcome Answer
step_told (Ok s) = answered (answer s)
step_told (Err x) = refused (number x)
