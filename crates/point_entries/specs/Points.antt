-- Document 01's entries on directions and points: what each answers for any numbers. A sense of turning is `true` for counter-clockwise.
use Rattle.std.specs.Prelude.{Bool, not, [], ◌∷◌, ℕ, pos, nat_abs}
use Rattle.std.specs.Int.Signed.{le_z}
use Rattle.index.specs.Refusals.{Rule, ◌when◌, Outcome, judged}
use Rattle.plane.specs.Directions.{triple, unit, turns}
use Rattle.plane.specs.Points as points
use Rattle.plane.specs.declared.ijk.IJK.{IJK}
use Rattle.plane.specs.declared.ijk.IJ.{IJ}
use Rattle.entry.specs.Rules.{way_rule, range_rule, count_rule}

abbrev pub unit_of : ℕ → Outcome IJK
unit_of d = judged (way_rule d ∷ []) (unit d)

abbrev pub direction_turn_of : Bool → ℕ → ℕ → Outcome ℕ
direction_turn_of ccw d n = judged (way_rule d ∷ count_rule n ∷ []) (turns ccw n d)

abbrev pub normalise_of : IJK → Outcome IJK
normalise_of t = judged (range_rule t ∷ []) (points.normal t)

abbrev pub neighbour_of : IJK → ℕ → Outcome IJK
neighbour_of t d = judged (way_rule d ∷ range_rule t ∷ []) (points.normal (points.plus t (unit d)))

abbrev pub same_of : IJK → IJK → Outcome Bool
same_of s t = judged (range_rule s ∷ range_rule t ∷ []) (points.same s t)

abbrev pub distance_of : IJK → IJK → Outcome ℕ
distance_of s t = judged (range_rule s ∷ range_rule t ∷ []) (nat_abs (points.distance s t))

abbrev pub to_ij_of : IJK → Outcome IJ
to_ij_of t = judged (range_rule t ∷ []) (points.ij t)

-- an IJ pair read back is the point (i, j, 0)
abbrev pub from_ij_of : IJ → Outcome IJK
from_ij_of p = judged (range_rule (triple p.i p.j (pos 0)) ∷ []) (points.of_ij p)

abbrev pub down7_of : Bool → IJK → Outcome IJK
down7_of ccw t = judged (range_rule t ∷ []) (points.normal (points.down7 ccw t))

abbrev pub down3_of : Bool → IJK → Outcome IJK
down3_of ccw t = judged (range_rule t ∷ []) (points.normal (points.down3 ccw t))

abbrev pub point_turn_of : Bool → IJK → Outcome IJK
point_turn_of ccw t = judged (range_rule t ∷ []) (points.normal (points.turned ccw t))

abbrev pub up7_of : Bool → IJK → Outcome IJK
up7_of ccw t = judged (range_rule t ∷ []) (points.up7 ccw t)

-- the normalised point is not a unit vector or zero
abbrev pub unit_rule : IJK → Rule
unit_rule t = 16 when not (le_z (points.largest (points.normal t)) (pos 1))

abbrev pub direction_of_point : IJK → Outcome ℕ
direction_of_point t = judged (range_rule t ∷ unit_rule t ∷ []) (points.value (points.normal t))
