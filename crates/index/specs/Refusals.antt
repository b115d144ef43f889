-- Document 01, 'Refusal numbers': the first refusal met ends the request; it returns its number and no value.
use Rattle.std.specs.Prelude.{◌≡◌, ℕ, Bool, true, false, ◌⊎◌, List, [], ◌∷◌}

-- a refusal's number, and the test that says when it is given
infix 20 ◌when◌
pub data Rule : Type 0 where
  ◌when◌ : ℕ → Bool → Rule

-- what a request ends with: its answer, or a refusal's number
pub data Outcome (A : Type 0) : Type 0 where
  answered : A → Outcome A
  refused : ℕ → Outcome A

module _ {A : Type 0} where
  -- the answer a under rules that are tried in order
  unfoldable pub judged : List Rule → A → Outcome A
  judged [] a = answered a
  judged ((k when true) ∷ rules) a = refused k
  judged ((k when false) ∷ rules) a = judged rules a

  -- the refusal's number, or 0 where there is an answer
  abbrev pub number_of : Outcome A → ℕ
  number_of (answered a) = 0
  number_of (refused k) = k

-- the test of no rule holds
abbrev pub Clear : List Rule → Type 0
Clear [] = Unit {0}
Clear ((k when t) ∷ rules) = (t ≡ false) × Clear rules

-- the test of the refusal k holds, and that of no rule before it
abbrev pub Met : ℕ → List Rule → Type 0
Met k [] = ⊥
Met k ((j when t) ∷ rules) = ((t ≡ true) × (j ≡ k)) ⊎ ((t ≡ false) × Met k rules)
