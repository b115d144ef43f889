-- No second answer, lent blocks included, satisfies the statement of an entry over a block. Assumes nothing.
use Rattle.std.proofs.Common.{◌≡◌, ℕ, List, sym, ◌∙◌, Result}
use Rattle.index.specs.Refusals.{Outcome}
use Rattle.index.specs.Told.{told}
use Rattle.index.specs.declared.refusal.Refusal.{Refusal}
use Rattle.entry.proofs.Unique.{told_inj}
use Rattle.block_entries.proofs.Fills.{Done}

pub one_block : (entry : ℕ → Outcome ℕ) (block v₀ r₀ : List ℕ) (x y : Result ℕ Refusal) (v w r s : List ℕ) → Done entry block v₀ r₀ (told x) v r → Done entry block v₀ r₀ (told y) w s → (x ≡ y) × (v ≡ w) × (r ≡ s)
one_block entry block v₀ r₀ x y v w r s p q = (told_inj x y (p.0 ∙ sym q.0), p.1 ∙ sym q.1, p.2 ∙ sym q.2)
