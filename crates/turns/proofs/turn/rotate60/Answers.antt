-- A number with its digits written is the cell of those digits.
use Rattle.std.proofs.Common.{ℕ, map, subst, arith}
use Rattle.plane.specs.Directions.{turns}
use Rattle.index.specs.Layout.{res_of}
use Rattle.index.specs.View.{used}
use Rattle.index.specs.Written.{WithDigits}
use Rattle.index.proofs.Redrawn.{redrawn_cell}
use Rattle.turns.specs.Turns.{turned_by}
use Rattle.turns.proofs.turn.rotate60.Goals as goal

pub returns : goal.returns
unfolding turned_by
returns c =
    redrawn_cell _ _ _ (omega arith) c.number.ensures.valid (subst (λ (m : ℕ). WithDigits m (map (turns c.args.by.0 c.args.by.1) (used m (res_of m))) c.turn_digits.result) c.number.ensures.value c.turn_digits.ensures)
