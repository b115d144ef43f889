use Rattle.index.specs.Check.{check_of}
use Rattle.block_entries.proofs.entries.check_block.Goals as goal

pub returns : goal.returns
returns c = c.each.ensures check_of (λ n r l p. p)
