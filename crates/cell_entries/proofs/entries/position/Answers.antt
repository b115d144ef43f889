use Rattle.cell_entries.proofs.entries.position.Goals as goal

pub returns : goal.returns
returns c = c.below.ensures _ _ c.check.ensures c.check-2.ensures
