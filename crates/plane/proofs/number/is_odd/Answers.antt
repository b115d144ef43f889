-- One more turns the parity over.
use Rattle.std.proofs.Common.{◌≡◌, ℕ, zero, suc, ◌%◌, ◌<◌, arith, refl, sym, ap, ◌∙◌, eq-eqb}
use mathlib.Core.Bool.{not}
use mathlib.Core.Logic.{◌⊎◌, inl, inr, ⊎_elim}
use lib.Dec.{eqb}
use borrow.Author.Tests.{ne_eqb}
use Rattle.plane.specs.Strings.{odd}
use Rattle.plane.proofs.number.is_odd.Goals as goal

two : (m : ℕ) → m < 2 → (m ≡ 0) ⊎ (m ≡ 1)
two zero h = inl refl
two (suc zero) h = inr refl
two (suc (suc m)) h = absurd (omega arith)

flip : (r : ℕ) → eqb (suc r % 2) 1 ≡ not (eqb (r % 2) 1)
flip r =
    ⊎_elim (λ (e : r % 2 ≡ 0). eq-eqb (suc r % 2) 1 (omega arith) ∙ sym (ap not (ne_eqb (r % 2) 1 (omega arith))))
    (λ (e : r % 2 ≡ 1). ne_eqb (suc r % 2) 1 (omega arith) ∙ sym (ap not (eq-eqb (r % 2) 1 e)))
    (two (r % 2) (omega arith))

parity : (r : ℕ) → eqb (r % 2) 1 ≡ odd r
parity zero = refl
parity (suc r) = flip r ∙ ap not (parity r)

pub returns : goal.returns
returns c = parity c.args.r
