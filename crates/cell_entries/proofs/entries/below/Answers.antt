-- The first cell is judged before the second, and last whether the second is under the first.
use Rattle.std.proofs.Common.{ℕ, not, List, [], ◌∷◌, ◌++◌, sym, ap, ap₂, ◌∙◌}
use Rattle.index.specs.Refusals.{Rule, ◌when◌}
use Rattle.index.specs.Check.{cell_rules}
use Rattle.index.specs.Told.{told}
use Rattle.descent.specs.Positions.{under, position_of, found_of}
use Rattle.entry.proofs.Judges.{passed, past_judge, hit_judge}
use Rattle.cell_entries.proofs.entries.below.Goals as goal

abbrev last : ℕ → ℕ → List Rule
last n y = (12 when not (under n y)) ∷ []

pub returns-in_err-b : goal.returns-in_err-b
returns-in_err-b c n y p q =
    hit_judge (cell_rules y) (last n y) _ _ _ _ (sym (ap told c.in_err-b.was) ∙ q) c.from_residual-in_err-b.ensures.1
    ∙ sym (past_judge (cell_rules n) n _ (sym (ap told c.in_ok-a.was) ∙ p) (cell_rules y ++ last n y) (position_of n y))

pub returns : goal.returns
returns c n y p q =
    let v = sym (ap told c.in_ok-a.was) ∙ p in
    let w = sym (ap told c.in_ok-b.was) ∙ q in
    c.position.ensures ∙ ap₂ found_of (passed (cell_rules n) n _ v).0 (passed (cell_rules y) y _ w).0
    ∙ sym (past_judge (cell_rules n) n _ v (cell_rules y ++ last n y) (position_of n y) ∙ past_judge (cell_rules y) y _ w (last n y) (position_of n y))
