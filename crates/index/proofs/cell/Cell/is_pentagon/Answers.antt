-- The one comparison is that of all digits with 0.
use Rattle.std.proofs.Common.{◌&&◌, ◌==◌, ap₂, ◌∙◌}
use Rattle.std.proofs.Math.Bool.{and_comm}
use Rattle.index.specs.Layout.{res_of, base_of, first_of, is_pentagonal}
use Rattle.index.proofs.cell.Cell.is_pentagon.Goals as goal
use Rattle.index.proofs.Zeros.{all_zero}

pub returns : goal.returns
returns c =
    ap₂ ◌&&◌ (all_zero c.args.self _ _ c.number-n.ensures.value c.number-n.ensures.valid (c.number-own.ensures.value ∙ c.get_resolution.ensures)) c.in_pentagon.ensures
    ∙ and_comm (first_of c.args.self (res_of c.args.self) == 0) (is_pentagonal (base_of c.args.self))
