-- Document 01, 'Directions and turns': turns of cells; a turn is counter-clockwise where its sense is `true`.
use Rattle.std.specs.Prelude.{Bool, cond, List, map, ℕ, eqb}
use Rattle.plane.specs.Directions.{turns}
use Rattle.index.specs.Layout.{base_of, res_of}
use Rattle.index.specs.View.{used, pack, first}

-- a cell turned by a count has each used digit turned; this holds in every base cell, and the answer is a raw number
unfoldable pub turned_by : Bool → ℕ → ℕ → ℕ
turned_by o count n = pack (base_of n) (map (turns o count) (used n (res_of n)))

-- where the first non-zero digit is 3 (counter-clockwise) or 5 (clockwise), all digits turn twice, else once
abbrev pub pentagon_count : Bool → List ℕ → ℕ
pentagon_count o ds = cond (eqb (first ds) (cond o 3 5)) 2 1

-- the pentagon turn
unfoldable pub pentagon_turned : Bool → ℕ → ℕ
pentagon_turned o n = turned_by o (pentagon_count o (used n (res_of n))) n
