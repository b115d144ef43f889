-- For whatever entry f computes, the first i elements of both lent blocks are answered.
use Rattle.std.proofs.Common.{◌≡◌, ℕ, ◌^◌, ◌<◌, Result}
use Rattle.index.specs.Refusals.{Outcome}
use Rattle.index.specs.Told.{told}
use Rattle.index.specs.declared.refusal.Refusal.{Refusal}
use Rattle.block_entries.proofs.Fills.{Filled}
use Rattle.block_entries.proofs.entries.each.Given as goal

abbrev pub invariant-loop-i : goal.invariant-loop-i
invariant-loop-i g l =
    (entry : ℕ → Outcome ℕ) → ((n : ℕ) (r : Result ℕ Refusal) → n < 2 ^ 64 → goal.F-post g l.f n r → told r ≡ entry n) →
    Filled entry l.cells l.fn.values l.fn.refusals l.values l.refusals l.i
