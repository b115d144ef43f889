use Rattle.std.proofs.Common.{ℕ}
use Rattle.cell_entries.specs.Cells.{ancestor_of}
use Rattle.block_entries.proofs.entries.ancestor_block.Goals as goal

pub returns : goal.returns
returns c = c.each.ensures (λ (raw : ℕ). ancestor_of raw c.args.coarser) (λ n r l p. p)
