-- By the laws of `Rooms`.
use Rattle.cell_entries.specs.Cells.{finer_rules}
use Rattle.cell_entries.proofs.Rooms.{refuses, goes_on}
use Rattle.cell_entries.proofs.entries.list.Goals as goal

pub returns-in_err-d : goal.returns-in_err-d
returns-in_err-d c =
    refuses (finer_rules c.args.raw c.args.target) _ _ _ _ _ _ _ _ c.in_err-d.ensures c.from_residual.ensures.1

pub returns : goal.returns
returns c = goes_on _ _ _ _ _ _ _ c.in_ok-d.ensures c.fill.ensures.answer c.fill.ensures.buffer
