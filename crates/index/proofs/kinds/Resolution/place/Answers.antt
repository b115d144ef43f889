-- The shift loses no bit.
use Rattle.std.proofs.Common.{ℕ, ◌-◌, ◌*◌, ◌^◌, ap, ◌∙◌, one-mul, arith, shl_exact}
use Rattle.index.proofs.Runs as runs
use Rattle.index.proofs.kinds.Resolution.place.Goals as goal

pub returns-clause-value : goal.returns-clause-value
returns-clause-value c =
    let k : ℕ = 15 - c.self.inside.0 in
    shl_exact 1 (3 * k) 64 (omega arith) (omega arith) ∙ one-mul _ ∙ runs.place k ∙ ap (λ (r : ℕ). 8 ^ (15 - r)) c.self.view_is
