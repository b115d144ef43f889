use Rattle.step_entries.specs.Told.{stepped_told}
use Rattle.rivetgnome.proofs.Narrow.{step_fits}
use Rattle.rivetgnome.proofs.steps.rg_step.Goals as goal

pub stepped_out-requires : goal.stepped_out-requires
stepped_out-requires c = step_fits c.args.cell c.args.direction (stepped_told c.step.result) c.ranges.cell.fits c.step.ensures
