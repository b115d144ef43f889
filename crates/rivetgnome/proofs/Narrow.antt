-- The turn number and the direction of a step are below 7, so that they fit 16 bits.
use mathlib.Core.Path.{◌≡◌, refl, sym, subst, ◌∙◌}
use mathlib.Core.Bool.{Bool, true, false, ◌||◌, true≢false}
use mathlib.Core.List.{List, [], ◌∷◌}
use Prim.Native.Nat.{ℕ, ◌^◌, ◌<◌}
use native.Mathlib.Omega.{arith}
use lib.Dec.{eqb, ltb}
use borrow.Author.Tests.{ltb-false}
use Rattle.index.specs.Layout.{Valid}
use Rattle.index.specs.Refusals.{Rule, Outcome, answered, refused, judged, Clear}
use Rattle.index.specs.Check.{cell_rules}
use Rattle.index.proofs.Rules.{never, answered_clear, clear_parts}
use Rattle.index.proofs.Validity.{clear_valid}
use Rattle.walks.specs.Walks.{carry_of}
use Rattle.grid.specs.Steps.{Answer, inside, leaves}
use Rattle.grid.specs.Steps as steps
use Rattle.walks.proofs.Walks.{walk_moved}
use Rattle.grid.proofs.Inside.{Case, left, stayed, deleted, ccw, cw, cases, within}
use Rattle.grid.proofs.Inside as inner
use Rattle.entry.specs.Rules.{onward_rule}
use Rattle.step_entries.specs.Steps.{onward_rules, after, step_of}
use Rattle.outward.specs.Exports.{stepped_out}

below : (d : ℕ) → eqb d 0 || ltb 6 d ≡ false → d < 7
below d e = go (eqb d 0) (ltb 6 d) refl e
  where
    go : (a b : Bool) → ltb 6 d ≡ b → a || b ≡ false → d < 7
    go true b q e = absurd (true≢false e)
    go false true q e = absurd (true≢false e)
    go false false q e = omega (arith, ltb-false 6 d q)

clear : (rules : List Rule) (s : Outcome Answer) (x : Answer) → after (judged rules tt) s ≡ answered x → Clear rules × (s ≡ answered x)
clear rules s x e = go (judged rules tt) refl e
  where
    go : (o : Outcome (Unit {0})) → judged rules tt ≡ o → after o s ≡ answered x → Clear rules × (s ≡ answered x)
    go (answered u) q e = (answered_clear rules tt u q, e)
    go (refused k) q e = absurd (never (sym e))

same_way : (x : Outcome Answer) (w k : ℕ) → x ≡ answered (leaves w) → x ≡ answered (leaves k) → w ≡ k
same_way x w k p q = cc

module _ (n d : ℕ) (x : Answer) (e : step_of n d ≡ answered x) where
  parts : Clear (cell_rules n) × Clear (onward_rule d ∷ [])
  parts = clear_parts (cell_rules n) (onward_rule d ∷ []) (clear (onward_rules n d) (steps.step_of n d) x e).0

  step : steps.step_of n d ≡ answered x
  step = (clear (onward_rules n d) (steps.step_of n d) x e).1

  valid : Valid n
  valid = clear_valid n parts.0

  onward : d < 7
  onward = below d parts.1.0

turn_small : (n d m t : ℕ) → step_of n d ≡ answered (inside m t) → t < 7
turn_small n d m t e = go (cases n d (valid n d _ e) (onward n d _ e)) (step n d _ e)
  where
    go : Case n d → steps.step_of n d ≡ answered (inside m t) → t < 7
    go (left f q) p = (inner.never (steps.step_of n d) m t p).0 (carry_of n d) q
    go (stayed z f q) p = omega (arith, (within (steps.step_of n d) m t _ _ p q).1)
    go (deleted z a g f q) p = (inner.never (steps.step_of n d) m t p).1 17 q
    go (ccw z a g f q) p = omega (arith, (within (steps.step_of n d) m t _ _ p q).1)
    go (cw z a g f q) p = omega (arith, (within (steps.step_of n d) m t _ _ p q).1)

way_small : (n d w : ℕ) → n < 2 ^ 64 → step_of n d ≡ answered (leaves w) → w < 7
way_small n d w h e = go (cases n d (valid n d _ e) (onward n d _ e)) (step n d _ e)
  where
    go : Case n d → steps.step_of n d ≡ answered (leaves w) → w < 7
    go (left f q) p = subst (λ (k : ℕ). k < 7) (sym (same_way (steps.step_of n d) w _ p q)) (walk_moved n d h (valid n d _ e) (onward n d _ e)).direction
    go (stayed z f q) p = (inner.never (steps.step_of n d) _ _ q).0 w p
    go (deleted z a g f q) p = absurd (never (sym p ∙ q))
    go (ccw z a g f q) p = (inner.never (steps.step_of n d) _ _ q).0 w p
    go (cw z a g f q) p = (inner.never (steps.step_of n d) _ _ q).0 w p

pub step_fits : (n d : ℕ) (o : Outcome Answer) → n < 2 ^ 64 → o ≡ step_of n d → (stepped_out o).turn < 65536
step_fits n d (answered (inside m t)) h e = omega (arith, turn_small n d m t (sym e))
step_fits n d (answered (leaves w)) h e = omega (arith, way_small n d w h (sym e))
step_fits n d (refused k) h e = omega arith
