use Rattle.cell_entries.specs.Cells.{position_of}
use Rattle.block_entries.proofs.entries.position_block.Goals as goal

pub returns : goal.returns
returns c = c.each.ensures (position_of c.args.first) (λ n r l p. p c.args.first c.check-checked.ensures)
