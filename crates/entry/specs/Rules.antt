-- Document 01's table of refusals: the tests of 8, 13 and 14 on numbers handed in.
use Rattle.std.specs.Prelude.{not, ◌||◌, ℕ, eqb, ltb}
use Rattle.index.specs.Refusals.{Rule, ◌when◌}
use Rattle.plane.specs.Ranges.{point_in_range}
use Rattle.plane.specs.declared.ijk.IJK.{IJK}

-- a given resolution is above 15
abbrev pub resolution_rule : ℕ → Rule
resolution_rule r = 8 when ltb 15 r

-- a direction handed in is not 0 to 6
abbrev pub way_rule : ℕ → Rule
way_rule d = 13 when ltb 6 d

-- a coordinate is outside the range, or a turn count is above 5
abbrev pub range_rule : IJK → Rule
range_rule t = 14 when not (point_in_range t)

abbrev pub count_rule : ℕ → Rule
count_rule n = 14 when ltb 5 n

-- a direction given to the step or the walk is not 1 to 6
abbrev pub onward_rule : ℕ → Rule
onward_rule d = 13 when (eqb d 0 || ltb 6 d)
