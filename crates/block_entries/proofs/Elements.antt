-- What the statements of the entries over a block mean, element by element and for whatever single entry. Assumes nothing.
use mathlib.Core.Path.{◌≡◌, refl, sym, ap, ◌∙◌}
use mathlib.Core.Bool.{Bool, true, false, ◌||◌}
use mathlib.Core.List.{List, [], ◌∷◌, ◌++◌, map}
use mathlib.Core.Logic.{◌⊎◌, inl, inr, ◌↔◌}
use Prim.Native.Nat.{ℕ, zero, suc, ◌≤◌, ◌<◌}
use native.Mathlib.Nat.{le_of_suc-le-suc, not-suc-le-zero}
use lib.Dec.{ltb}
use lib.ListN.{length, drop, get_or}
use borrow.Author.Tests.{lt-ltb, ltb-true, ltb-false}
use Rattle.entry.specs.Answers.{value_of}
use Rattle.index.specs.Refusals.{◌when◌, Outcome, answered, refused, number_of, Met}
use Rattle.index.proofs.Some.{both_off}
use Rattle.index.proofs.Rules.{hit, past, none_answered, refused_met, answered_clear, answered_same}
use Rattle.block_entries.specs.Blocks.{block_of, filled, values_after, refusals_after}
use Rattle.block_entries.proofs.Fills.{neither}

one_of : (a b : Bool) → a || b ≡ true → (a ≡ true) ⊎ (b ≡ true)
one_of true b e = inl refl
one_of false b e = inr e

second_of : (a b : Bool) → b ≡ true → a || b ≡ true
second_of true b e = refl
second_of false b e = e

new_at : (f : ℕ → ℕ) (block lent : List ℕ) (i : ℕ) → i < length block → get_or (map f block ++ lent) i 0 ≡ f (get_or block i 0)
new_at f [] lent i h = absurd (not-suc-le-zero h)
new_at f (x ∷ xs) lent zero h = refl
new_at f (x ∷ xs) lent (suc i) h = new_at f xs lent i (le_of_suc-le-suc h)

old_at : (f : ℕ → ℕ) (block lent : List ℕ) (i : ℕ) → length block ≤ length lent → length block ≤ i → get_or (map f block ++ drop (length block) lent) i 0 ≡ get_or lent i 0
old_at f [] lent i l h = refl
old_at f (x ∷ xs) [] i l h = absurd (not-suc-le-zero l)
old_at f (x ∷ xs) (y ∷ ys) zero l h = absurd (not-suc-le-zero h)
old_at f (x ∷ xs) (y ∷ ys) (suc i) l h = old_at f xs ys i (le_of_suc-le-suc l) (le_of_suc-le-suc h)

under_one : (v r n : ℕ) → ltb v n || ltb r n ≡ true → (v < n) ⊎ (r < n)
under_one v r n e = go (one_of (ltb v n) (ltb r n) e)
  where
    go : (ltb v n ≡ true) ⊎ (ltb r n ≡ true) → (v < n) ⊎ (r < n)
    go (inl p) = inl (ltb-true v n p)
    go (inr p) = inr (ltb-true r n p)

over_one : (v r n : ℕ) → (v < n) ⊎ (r < n) → ltb v n || ltb r n ≡ true
over_one v r n (inl h) = rw (lt-ltb v n h)
over_one v r n (inr h) = second_of (ltb v n) (ltb r n) (lt-ltb r n h)

module _ (block values refusals : List ℕ) where
  -- one of the two lent blocks is shorter than the block handed in
  abbrev pub Short : Type 0
  Short = (length values < length block) ⊎ (length refusals < length block)

  abbrev pub Room : Type 0
  Room = (length block ≤ length values) × (length block ≤ length refusals)

  abbrev test : Bool
  test = ltb (length values) (length block) || ltb (length refusals) (length block)

  -- refusal 10 is given exactly where one is shorter, and no other is ever given
  pub short : (k : ℕ) → (block_of block values refusals ≡ refused k) ↔ ((k ≡ 10) × Short)
  short k = (
    λ e. go (refused_met ((10 when test) ∷ []) (length block) k e),
    λ h. hit 10 test [] (length block) (over_one _ _ _ h.1) ∙ ap refused (sym h.0),
  )
    where
      go : Met k ((10 when test) ∷ []) → (k ≡ 10) × Short
      go (inl m) = (sym m.1, under_one _ _ _ m.0)
      go (inr m) = absurd m.1

  -- the number of elements is answered exactly where there is room in both, and no other number ever is
  pub room : (n : ℕ) → (block_of block values refusals ≡ answered n) ↔ ((n ≡ length block) × Room)
  room n = (
    λ e. let z = both_off _ _ (answered_clear ((10 when test) ∷ []) (length block) n e).0 in (sym (answered_same ((10 when test) ∷ []) (length block) n e), (ltb-false _ _ z.0, ltb-false _ _ z.1)),
    λ h. past 10 test [] (length block) (neither _ _ _ h.1.0 h.1.1) ∙ none_answered _ ∙ ap answered (sym h.0),
  )

  module _ (entry : ℕ → Outcome ℕ) where
    -- a request that is refused leaves both as they were
    pub untouched : Short → (values_after entry block values refusals ≡ values) × (refusals_after entry block values refusals ≡ refusals)
    untouched h =
        let e = (short 10).1 (refl, h) in
        (ap (λ (o : Outcome ℕ). filled o (λ n. value_of (entry n)) block values) e, ap (λ (o : Outcome ℕ). filled o (λ n. number_of (entry n)) block refusals) e)

    module _ (h : Room) where
      abbrev new : (ℕ → ℕ) → List ℕ → List ℕ
      new f lent = map f block ++ drop (length block) lent

      done : (f : ℕ → ℕ) (lent : List ℕ) → filled (block_of block values refusals) f block lent ≡ new f lent
      done f lent = ap (λ (o : Outcome ℕ). filled o f block lent) ((room (length block)).1 (refl, h))

      -- each element handed in has what the single entry gives for it
      pub element : (i : ℕ) → i < length block →
          (get_or (values_after entry block values refusals) i 0 ≡ value_of (entry (get_or block i 0))) × (get_or (refusals_after entry block values refusals) i 0 ≡ number_of (entry (get_or block i 0)))
      element i l = (
        ap (λ (x : List ℕ). get_or x i 0) (done (λ n. value_of (entry n)) values) ∙ new_at (λ n. value_of (entry n)) block (drop (length block) values) i l,
        ap (λ (x : List ℕ). get_or x i 0) (done (λ n. number_of (entry n)) refusals) ∙ new_at (λ n. number_of (entry n)) block (drop (length block) refusals) i l,
      )

      -- later elements stay as they were
      pub later : (i : ℕ) → length block ≤ i →
          (get_or (values_after entry block values refusals) i 0 ≡ get_or values i 0) × (get_or (refusals_after entry block values refusals) i 0 ≡ get_or refusals i 0)
      later i l = (
        ap (λ (x : List ℕ). get_or x i 0) (done (λ n. value_of (entry n)) values) ∙ old_at (λ n. value_of (entry n)) block values i h.0 l,
        ap (λ (x : List ℕ). get_or x i 0) (done (λ n. number_of (entry n)) refusals) ∙ old_at (λ n. number_of (entry n)) block refusals i h.1 l,
      )
