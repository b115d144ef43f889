-- No second answer, the lent buffer included, satisfies the statement of a listing, and none that of a call of the cursor. Assumes nothing.
use Rattle.std.proofs.Common.{◌≡◌, ℕ, List, sym, ◌∙◌, Result}
use Rattle.index.specs.Refusals.{Outcome}
use Rattle.index.specs.Told.{told}
use Rattle.index.specs.declared.refusal.Refusal.{Refusal}
use Rattle.children.specs.Cursors.{next_of}
use Rattle.children.specs.declared.children.Cursor.{Cursor}
use Rattle.children.specs.declared.children.Given.{Given}
use Rattle.entry.proofs.Unique.{told_inj}

pub one_listing : (o : Outcome ℕ) (after : List ℕ) (r s : Result ℕ Refusal) (x y : List ℕ) → (told r ≡ o) × (x ≡ after) → (told s ≡ o) × (y ≡ after) → (r ≡ s) × (x ≡ y)
one_listing o after r s x y p q = (told_inj r s (p.0 ∙ sym q.0), p.1 ∙ sym q.1)

pub one_given : (c : Cursor) (r s : Given) → r ≡ next_of c → s ≡ next_of c → r ≡ s
one_given c r s p q = p ∙ sym q
