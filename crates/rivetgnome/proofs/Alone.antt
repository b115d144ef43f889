-- No second answer, what is lent included, satisfies an export's statement: by equations, by fields, or by the relation of reading back.
use mathlib.Core.Path.{◌≡◌, sym, ap, ◌∙◌}
use mathlib.Core.List.{List, [], ◌∷◌}
use Prim.Native.Nat.{ℕ}
use Rattle.index.specs.Refusals.{Outcome, answered, refused, judged}
use Rattle.plane.specs.declared.ijk.IJK.{IJK}
use Rattle.centres.specs.Centres.{Reads}
use Rattle.centres.proofs.Strings.{one_reading}
use Rattle.entry.specs.Rules.{resolution_rule, range_rule}
use Rattle.step_entries.specs.Steps.{Under}
use Rattle.outward.specs.Exports.{number_out}
use Rattle.rivetgnome.specs.Steps.{ReadsBackOut}
use Rattle.outward.specs.declared.answers.RgChecked.{RgChecked}
use Rattle.outward.specs.declared.answers.RgNumber.{RgNumber}

module _ {A : Type 0} (a r s : A) where
  pub one_out : r ≡ a → s ≡ a → r ≡ s
  one_out p q = p ∙ sym q

  -- with a lent buffer, and with two
  pub one_out_lent : (b x y : List ℕ) → (r ≡ a) × (x ≡ b) → (s ≡ a) × (y ≡ b) → (r ≡ s) × (x ≡ y)
  one_out_lent b x y p q = (p.0 ∙ sym q.0, p.1 ∙ sym q.1)

  pub one_out_blocks : (b c x y v w : List ℕ) → (r ≡ a) × (x ≡ b) × (v ≡ c) → (s ≡ a) × (y ≡ b) × (w ≡ c) → (r ≡ s) × (x ≡ y) × (v ≡ w)
  one_out_blocks b c x y v w p q = (p.0 ∙ sym q.0, p.1 ∙ sym q.1, p.2 ∙ sym q.2)

module _ (k : ℕ) (r s : RgChecked) where
  pub one_checked_out : (r.refusal ≡ k) × (r.zero ≡ 0) → (s.refusal ≡ k) × (s.zero ≡ 0) → r ≡ s
  one_checked_out p q = let f = p.0 ∙ sym q.0 in let z = p.1 ∙ sym q.1 in λ i. record { refusal = f i; zero = z i }

  pub one_cursor_out : (b x y : List ℕ) → (r.refusal ≡ k) × (r.zero ≡ 0) × (x ≡ b) → (s.refusal ≡ k) × (s.zero ≡ 0) × (y ≡ b) → (r ≡ s) × (x ≡ y)
  one_cursor_out b x y p q = (one_checked_out (p.0, p.1) (q.0, q.1), p.2 ∙ sym q.2)

module _ (length : ℕ) (p : IJK) where
  one_outcome : (x : Outcome (Unit {0})) (o q : Outcome ℕ) → Under x (Reads length p) o → Under x (Reads length p) q → o ≡ q
  one_outcome (answered u) o q a b = one_reading length p o q a b
  one_outcome (refused k) o q a b = a ∙ sym b

  pub one_read_back_out : (r s : RgNumber) → ReadsBackOut length p r → ReadsBackOut length p s → r ≡ s
  one_read_back_out r s a b = a.2 ∙ ap number_out (one_outcome (judged (resolution_rule length ∷ range_rule p ∷ []) tt) a.0 b.0 a.1 b.1) ∙ sym b.2
