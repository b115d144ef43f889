-- No second answer satisfies an entry's statement, which is that what the answer tells is a given outcome. Assumes nothing.
use Rattle.std.proofs.Common.{◌≡◌, ℕ, [], ◌∷◌, get_or, refl, sym, ap, ◌∙◌, Result, Ok, Err}
use Rattle.index.specs.Refusals.{Outcome}
use Rattle.index.specs.Told.{number, told}
use Rattle.index.specs.declared.refusal.Refusal.{Refusal}
use Rattle.index.specs.declared.refusal.Refusal.TheVariants as refusal
use Rattle.index.proofs.Rules.{never, refused_inj, answered_inj}

-- the refusal of a number, from 1
abbrev of_number : ℕ → Refusal
of_number n =
    get_or
    (refusal.TopBit ∷ refusal.TopBit ∷ refusal.Mode ∷ refusal.Reserved ∷ refusal.BaseCell ∷ refusal.Digit ∷ refusal.Unused ∷ refusal.Deleted
    ∷ refusal.Resolution ∷ refusal.Order ∷ refusal.NoRoom ∷ refusal.Position ∷ refusal.NotUnder ∷ refusal.Direction ∷ refusal.Range
    ∷ refusal.NoString ∷ refusal.NotUnit ∷ refusal.DeletedWay ∷ [])
    n
    refusal.TopBit

of_own_number : (x : Refusal) → of_number (number x) ≡ x
of_own_number refusal.TopBit = refl
of_own_number refusal.Mode = refl
of_own_number refusal.Reserved = refl
of_own_number refusal.BaseCell = refl
of_own_number refusal.Digit = refl
of_own_number refusal.Unused = refl
of_own_number refusal.Deleted = refl
of_own_number refusal.Resolution = refl
of_own_number refusal.Order = refl
of_own_number refusal.NoRoom = refl
of_own_number refusal.Position = refl
of_own_number refusal.NotUnder = refl
of_own_number refusal.Direction = refl
of_own_number refusal.Range = refl
of_own_number refusal.NoString = refl
of_own_number refusal.NotUnit = refl
of_own_number refusal.DeletedWay = refl

number_inj : (x y : Refusal) → number x ≡ number y → x ≡ y
number_inj x y e = sym (of_own_number x) ∙ ap of_number e ∙ of_own_number y

pub told_inj : {A : Type 0} (r s : Result A Refusal) → told r ≡ told s → r ≡ s
told_inj (Ok a) (Ok b) e = ap Ok (answered_inj e)
told_inj (Ok a) (Err y) e = absurd (never e)
told_inj (Err x) (Ok b) e = absurd (never (sym e))
told_inj (Err x) (Err y) e = ap Err (number_inj x y (refused_inj e))

pub one_answer : {A : Type 0} (o : Outcome A) (r s : Result A Refusal) → told r ≡ o → told s ≡ o → r ≡ s
one_answer o r s p q = told_inj r s (p ∙ sym q)
