-- No second answer satisfies the statement of the walk, of the step or of reading back. Assumes nothing.
use Rattle.std.proofs.Common.{◌≡◌, ℕ, [], ◌∷◌, sym, ap, ◌∙◌, arith, Result, Ok, Err}
use Rattle.index.specs.Refusals.{Outcome, answered, refused, judged}
use Rattle.index.specs.Told.{told}
use Rattle.index.specs.declared.refusal.Refusal.{Refusal}
use Rattle.index.proofs.Rules.{never, answered_inj}
use Rattle.plane.specs.declared.ijk.IJK.{IJK}
use Rattle.centres.specs.Centres.{Reads}
use Rattle.centres.proofs.Strings.{one_reading}
use Rattle.grid.specs.Steps.{Answer, inside, leaves}
use Rattle.entry.specs.Rules.{resolution_rule, range_rule}
use Rattle.entry.proofs.Unique.{told_inj}
use Rattle.step_entries.specs.Told.{walked_told, stepped_answer, stepped_told}
use Rattle.step_entries.specs.declared.answers.Walked.{Walked}
use Rattle.step_entries.specs.declared.answers.Stepped.{Stepped}
use Rattle.step_entries.specs.declared.answers.Stepped.TheVariants.{Inside, Leaves}
use Rattle.step_entries.specs.Steps.{Under, ReadsBack}

-- reading back says of its outcome what only one satisfies
under_one : (u : Outcome (Unit {0})) (k : ℕ) (p : IJK) (x y : Outcome ℕ) → Under u (Reads k p) x → Under u (Reads k p) y → x ≡ y
under_one (answered t) k p x y a b = one_reading k p x y a b
under_one (refused j) k p x y a b = a ∙ sym b

pub one_read_back : (length : ℕ) (p : IJK) (r s : Result ℕ Refusal) → ReadsBack length p (told r) → ReadsBack length p (told s) → r ≡ s
one_read_back length p r s a b = told_inj r s (under_one (judged (resolution_rule length ∷ range_rule p ∷ []) tt) length p (told r) (told s) a b)

told_walked : (r s : Result Walked Refusal) → walked_told r ≡ walked_told s → r ≡ s
told_walked (Ok a) (Ok b) e = let p = answered_inj e in λ i. Ok (record { number = (p i).0; carry = (p i).1 })
told_walked (Ok a) (Err y) e = absurd (never e)
told_walked (Err x) (Ok b) e = absurd (never (sym e))
told_walked (Err x) (Err y) e = told_inj (Err x) (Err y) cc

pub one_walked : (o : Outcome (ℕ × ℕ)) (r s : Result Walked Refusal) → walked_told r ≡ o → walked_told s ≡ o → r ≡ s
one_walked o r s p q = told_walked r s (p ∙ sym q)

same_inside : (n t m u : ℕ) → inside n t ≡ inside m u → (n ≡ m) × (t ≡ u)
same_inside n t m u e = (cc, cc)

same_leaves : (d e : ℕ) → leaves d ≡ leaves e → d ≡ e
same_leaves d e p = cc

apart : {A : Type 0} (n t d : ℕ) → inside n t ≡ leaves d → A
apart n t d e = absurd (let z : ◌≡◌ {A = ℕ} 0 1 = cc in omega arith)

same_answer : (a b : Stepped) → stepped_answer a ≡ stepped_answer b → a ≡ b
same_answer (Inside n t) (Inside m u) e = let p = same_inside n t m u e in λ i. Inside (p.0 i) (p.1 i)
same_answer (Inside n t) (Leaves d) e = apart n t d e
same_answer (Leaves d) (Inside m u) e = apart m u d (sym e)
same_answer (Leaves d) (Leaves b) e = ap Leaves (same_leaves d b e)

told_stepped : (r s : Result Stepped Refusal) → stepped_told r ≡ stepped_told s → r ≡ s
told_stepped (Ok a) (Ok b) e = ap Ok (same_answer a b (answered_inj e))
told_stepped (Ok a) (Err y) e = absurd (never e)
told_stepped (Err x) (Ok b) e = absurd (never (sym e))
told_stepped (Err x) (Err y) e = told_inj (Err x) (Err y) cc

pub one_stepped : (o : Outcome Answer) (r s : Result Stepped Refusal) → stepped_told r ≡ o → stepped_told s ≡ o → r ≡ s
one_stepped o r s p q = told_stepped r s (p ∙ sym q)
