-- The table of proved examples holds: each row is computed. Assumes nothing.
use mathlib.Core.Path.{refl}
use Rattle.index.specs.Layout.{first_of, among, is_pentagonal}
use Rattle.index.specs.Refusals.{judged}
use Rattle.index.specs.Check.{some}
use Rattle.index.specs.View.{used, octal, pack, first}
use Rattle.plane.specs.Directions.{vec}
use Rattle.walks.specs.Walks.{carry_of}
use Rattle.grid.specs.Steps.{stays_in, out_of_deleted}
use Rattle.grid.specs.Steps as steps
use Rattle.centres.proofs.Computed.{computed}
use Rattle.descent.specs.Positions.{below, child_at, tab, listing}
use Rattle.hexagons.specs.Examples.{table, Holds}

pub examples : Holds table
unfolding judged some first_of is_pentagonal among listing tab child_at pack octal below used steps.step_of stays_in out_of_deleted carry_of first
examples = (refl, (refl, (refl, (refl, (refl, (refl, (refl, (refl, (refl, (refl, (refl, (refl, (refl, (refl, (refl, (refl, (refl, (computed 1 (vec 0 0 2), tt))))))))))))))))))
