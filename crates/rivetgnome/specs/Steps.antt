-- What the export of reading back hands out, besides outward's Exports.
use Rattle.std.specs.Prelude.{◌≡◌, ℕ}
use Rattle.index.specs.Refusals.{Outcome}
use Rattle.plane.specs.declared.ijk.IJK.{IJK}
use Rattle.step_entries.specs.Steps.{ReadsBack}
use Rattle.outward.specs.Exports.{number_out}
use Rattle.outward.specs.declared.answers.RgNumber.{RgNumber}

-- of the one outcome that reading back has
abbrev pub ReadsBackOut : ℕ → IJK → RgNumber → Type 0
ReadsBackOut length p r = (o : Outcome ℕ) × ReadsBack length p o × (r ≡ number_out o)
