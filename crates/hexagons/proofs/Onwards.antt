-- What the step learns of a cell and a direction that were judged. Assumes nothing.
use mathlib.Core.Path.{◌≡◌, refl, sym, ap}
use mathlib.Core.List.{[], ◌∷◌}
use Prim.Native.Nat.{ℕ, ◌≤◌}
use native.Mathlib.Omega.{arith}
use lib.Dec.{eqb, ltb}
use borrow.Author.Tests.{ltb-false, le-ltb, eqb-false, ne_eqb}
use Rattle.index.specs.Layout.{Valid}
use Rattle.index.specs.Refusals.{Outcome, answered, refused, judged, Clear}
use Rattle.index.specs.Check.{cell_rules}
use Rattle.index.proofs.Rules.{never, answered_clear, clear_answered, clear_parts, joined}
use Rattle.index.proofs.Some.{both_off}
use Rattle.index.proofs.Validity.{clear_valid, valid_clear}
use Rattle.entry.specs.Rules.{onward_rule}
use Rattle.grid.specs.Steps as steps
use Rattle.step_entries.specs.Steps.{onward_rules, after, step_of}

-- the rules let through a cell and a direction 1 to 6, and nothing else
pub onward_clear : (n way : ℕ) → Valid n → 1 ≤ way → way ≤ 6 → Clear (onward_rules n way)
onward_clear n way v l u =
    joined (cell_rules n) (onward_rule way ∷ []) (valid_clear n v) (rw (ne_eqb way 0 (λ e. omega arith), le-ltb 6 way u), tt)

pub clear_onward : (n way : ℕ) → Clear (onward_rules n way) → Valid n × (1 ≤ way) × (way ≤ 6)
clear_onward n way c =
    let w = clear_parts (cell_rules n) (onward_rule way ∷ []) c in
    let z = both_off (eqb way 0) (ltb 6 way) w.1.0 in
    (clear_valid n w.0, low (eqb-false way 0 z.0), ltb-false 6 way z.1)
  where
    low : (way ≡ 0 → ⊥) → 1 ≤ way
    low d = omega arith

-- the step of such
pub step_onward : (n way : ℕ) → Valid n → 1 ≤ way → way ≤ 6 → step_of n way ≡ steps.step_of n way
step_onward n way v l u = ap (λ (o : Outcome (Unit {0})). after o (steps.step_of n way)) (clear_answered (onward_rules n way) tt (onward_clear n way v l u))

-- a step that is answered is the step of such
pub record OnwardsStep (n way : ℕ) (a : steps.Answer) : Type 0 where
  pub valid : Valid n
  pub low : 1 ≤ way
  pub high : way ≤ 6
  pub step : steps.step_of n way ≡ answered a

pub step_answered : (n way : ℕ) (a : steps.Answer) → step_of n way ≡ answered a → OnwardsStep n way a
step_answered n way a e = go (judged (onward_rules n way) tt) refl e
  where
    go : (o : Outcome (Unit {0})) → judged (onward_rules n way) tt ≡ o → after o (steps.step_of n way) ≡ answered a → OnwardsStep n way a
    go (answered u) q e =
        let c = clear_onward n way (answered_clear (onward_rules n way) tt u q) in
        record { valid = c.0; low = c.1; high = c.2; step = e }
    go (refused k) q e = absurd (never (sym e))
