-- An addition to document 01: entries over a block of numbers. Each element has what the single entry gives for it.
use Rattle.std.specs.Prelude.{◌||◌, List, [], ◌∷◌, ◌++◌, map, ℕ, ltb, length, drop}
use Rattle.index.specs.Refusals.{◌when◌, Outcome, answered, refused, number_of, judged}
use Rattle.entry.specs.Answers.{value_of}

-- the request, by the block handed in and the two lent: how many elements are answered, or 10 where one of the two is shorter
abbrev pub block_of : List ℕ → List ℕ → List ℕ → Outcome ℕ
block_of block values refusals = judged ((10 when (ltb (length values) (length block) || ltb (length refusals) (length block))) ∷ []) (length block)

-- a lent block afterwards: what f gives for each element and later elements as they were, or as it was where the request is refused
abbrev pub filled : Outcome ℕ → (ℕ → ℕ) → List ℕ → List ℕ → List ℕ
filled (answered n) f block lent = map f block ++ drop n lent
filled (refused k) f block lent = lent

-- where `entry` is what the single entry gives for an element
module _ (entry : ℕ → Outcome ℕ) (block values refusals : List ℕ) where
  abbrev pub values_after : List ℕ
  values_after = filled (block_of block values refusals) (λ n. value_of (entry n)) block values

  abbrev pub refusals_after : List ℕ
  refusals_after = filled (block_of block values refusals) (λ n. number_of (entry n)) block refusals
