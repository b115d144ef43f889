use Rattle.cell_entries.proofs.Rooms.{not_finer}
use Rattle.cell_entries.proofs.entries.cursor.Goals as goal

pub returns-in_err-d : goal.returns-in_err-d
returns-in_err-d c = not_finer c.args.raw c.args.target _ _ _ _ c.in_err-d.ensures c.from_residual.ensures.1
