-- What an entry learns of a number or a point that was judged, and how its own rules go on. Assumes nothing.
use Rattle.std.proofs.Common.{◌≡◌, ℕ, ◌≤◌, Bool, true, not, List, [], ◌∷◌, ◌++◌, ⊎_elim, sym, ap, ◌∙◌, subst, arith, Result, Err}
use Rattle.std.specs.Result.{IsErrAnd}
use Rattle.std.proofs.lemmas.Result.{err_from_is_err_and}
use borrow.Author.Tests.{not-false}
use lib.Dec.{T}
use Rattle.index.specs.Refusals.{Rule, ◌when◌, answered, refused, number_of, judged, Clear}
use Rattle.index.specs.Check.{check_of}
use Rattle.index.specs.Told.{number, told}
use Rattle.index.specs.declared.refusal.Refusal.{Refusal}
use Rattle.index.proofs.Rules.{answered_same, answered_clear, refused_met, cleared, early}
use Rattle.plane.specs.Ranges.{point_in_range, Within}
use Rattle.plane.specs.declared.ijk.IJK.{IJK}
use Rattle.plane.proofs.Bounds.{in_range_within}
use Rattle.entry.specs.Rules.{range_rule}

-- what a judge answers by rules: what passes is what was handed in
module _ {A : Type 0} (rules : List Rule) (a x : A) (e : answered x ≡ judged rules a) where
  pub passed : (x ≡ a) × Clear rules
  passed = (sym (answered_same rules a x (sym e)), answered_clear rules a x (sym e))

  -- an entry whose rules begin with these goes on with the others
  pub past_judge : {B : Type 0} (more : List Rule) (b : B) → judged (rules ++ more) b ≡ judged more b
  past_judge more b = cleared rules more b passed.1

-- what a judge refuses the entry refuses, at the exit of a `?`
pub hit_judge : {A B : Type 0} (rules more : List Rule) (a : A) (b : B) (x : Refusal) (r : Result B Refusal) →
    refused (number x) ≡ judged rules a → IsErrAnd r (λ y. y ≡ x) → told r ≡ judged (rules ++ more) b
hit_judge rules more a b x r e f =
    let p = err_from_is_err_and r f in
    ap told p.1 ∙ ap (λ (y : Refusal). refused (number y)) p.2 ∙ sym (early rules more a b (number x) (sym e))

module _ {A : Type 0} (k : ℕ) (t : Bool) (a : A) (r : Result A Refusal) where
  -- what one rule refuses has its number, and its test holds
  met : (x : Refusal) → r ≡ Err x → told r ≡ judged ((k when t) ∷ []) a → (t ≡ true) × (number x ≡ k)
  met x p q = ⊎_elim (λ m. (m.0, sym m.1)) (λ m. absurd m.1) (refused_met ((k when t) ∷ []) a (number x) (sym q ∙ ap told p))

  pub nowhere_is : (x : Refusal) → r ≡ Err x → told r ≡ judged ((k when t) ∷ []) a → t ≡ true
  nowhere_is x p q = (met x p q).0

pub outside_is : (t : IJK) (r : Result IJK Refusal) (x : Refusal) → r ≡ Err x → told r ≡ judged (range_rule t ∷ []) t → not (point_in_range t) ≡ true
outside_is t r x p q = nowhere_is 14 (not (point_in_range t)) t r x p q

pub within : (t p : IJK) → answered p ≡ judged (range_rule t ∷ []) t → Within 100000000 p
within t p e =
    let w = passed (range_rule t ∷ []) t p e in
    subst (Within 100000000) (sym w.0) (in_range_within t (subst T (sym (not-false (point_in_range t) w.1.0)) tt))

-- a size that a larger one allows
pub wider : (m : ℕ) (p : IJK) → Within 100000000 p → 100000000 ≤ m → Within m p
wider m p w h =
    let i = w.i in
    let j = w.j in
    let k = w.k in
    record { i = omega arith; j = omega arith; k = omega arith }

-- a cell that the check refused
pub cell_refused : (n : ℕ) (a : Result ℕ Refusal) (x : Refusal) → a ≡ Err x → told a ≡ check_of n → check_of n ≡ refused (number_of (told a))
cell_refused n a x p e = sym e ∙ ap told p ∙ ap (λ (y : Result ℕ Refusal). refused (number_of (told y))) (sym p)
