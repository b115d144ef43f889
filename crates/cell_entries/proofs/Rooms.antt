-- A listing's answer and the buffer afterwards. Assumes nothing.
use Rattle.std.proofs.Common.{◌≡◌, ℕ, ◌+◌, List, [], ◌∷◌, ◌++◌, length, refl, sym, ap, ◌∙◌, subst, rules, Result, Ok}
use Rattle.std.specs.Result.{IsErrAnd}
use Rattle.index.specs.Refusals.{Rule, Outcome, answered, refused, judged}
use Rattle.index.specs.Layout.{res_of}
use Rattle.index.specs.Check.{check_of}
use Rattle.index.specs.Told.{number, told, TakenAsResolution}
use Rattle.index.specs.declared.refusal.Refusal.{Refusal}
use Rattle.index.proofs.Rules.{early}
use Rattle.descent.specs.Descendants.{count_of}
use Rattle.entry.proofs.Judges.{passed, past_judge, hit_judge}
use Rattle.cell_entries.specs.Cells.{finer_rules, finer_of, room_rule, room_of, list_of, afterwards}

-- at the exit of a `?`, what is refused leaves the buffer as it was
pub refuses : {A : Type 0} (rules more : List Rule) (a : A) (k n t : ℕ) (b : List ℕ) (x : Refusal) (r : Result ℕ Refusal) →
    refused (number x) ≡ judged rules a → IsErrAnd r (λ y. y ≡ x) →
    (told r ≡ judged (rules ++ more) k) × (b ≡ afterwards (judged (rules ++ more) k) n t b)
refuses rules more a k n t b x r e f = (
  hit_judge rules more a k x r e f,
  subst (λ (o : Outcome ℕ). b ≡ afterwards o n t b) (sym (early rules more a k (number x) (sym e))) refl,
)

-- what the judge of a cell and a finer resolution refuses the entry refuses, whatever rules follow
pub not_finer : {A : Type 0} (raw t : ℕ) (more : List Rule) (b : A) (x : Refusal) (r : Result A Refusal) → refused (number x) ≡ finer_of raw t → IsErrAnd r (λ y. y ≡ x) → told r ≡ judged (finer_rules raw t ++ more) b
not_finer raw t more b = hit_judge (finer_rules raw t) more (raw, t) b

-- a cell and a resolution that pass are those that were handed in, and only the room is left to judge
pub goes_on : (raw t c u : ℕ) (b l : List ℕ) (o : Outcome ℕ) → answered (c, u) ≡ finer_of raw t →
    o ≡ room_of c u (length b) → l ≡ afterwards (room_of c u (length b)) c u b →
    (o ≡ list_of raw t (length b)) × (l ≡ afterwards (list_of raw t (length b)) raw t b)
goes_on raw t c u b l o e p q =
    let w = (passed (finer_rules raw t) (raw, t) (c, u) e).0 in
    let m : c ≡ raw = ap (λ (x : ℕ × ℕ). x.0) w in
    let v : u ≡ t = ap (λ (x : ℕ × ℕ). x.1) w in
    let z : room_of c u (length b) ≡ list_of raw t (length b) =
    (λ i. room_of (m i) (v i) (length b)) ∙ sym (past_judge (finer_rules raw t) (raw, t) (c, u) e (room_rule raw t (length b) ∷ []) (count_of raw t)) in
    (p ∙ z, q ∙ (λ i. afterwards (z i) (m i) (v i) b))

-- the short listing: the own resolution plus 1 is never below the own one
pub short : (raw c r t : ℕ) → answered c ≡ check_of raw → r ≡ res_of c → TakenAsResolution (r + 1) (Ok t) → answered (c, t) ≡ finer_of raw (res_of raw + 1)
unfolding judged
short raw c r t e q h = search rules
