-- A loop over a block that writes what an entry gives for each element into two lent blocks. Assumes nothing.
use Rattle.std.proofs.Common.{◌≡◌, ℕ, zero, suc, ◌+◌, ◌≤◌, ◌<◌, true, false, ◌||◌, ◌⊎◌, inl, inr, ltb, lt-ltb, List, [], ◌∷◌, ◌++◌, map, length, take, drop, get_or, set, refl, sym, ap, ◌∙◌, subst, add-one, arith, le-ltb}
use native.Mathlib.Nat.{le_of_suc-le-suc, not-suc-le-zero}
use lib.Seq.{take-length}
use Rattle.entry.specs.Answers.{value_of}
use Rattle.index.specs.Refusals.{Outcome, answered, refused, number_of}
use Rattle.index.proofs.Rules.{past, hit, none_answered}
use Rattle.block_entries.specs.Blocks.{block_of, filled, values_after, refusals_after}

-- the first i elements are answered, and the others are as they were
abbrev part : (ℕ → ℕ) → List ℕ → List ℕ → ℕ → List ℕ
part f block lent i = map f (take i block) ++ drop i lent

part_more : (f : ℕ → ℕ) (block lent : List ℕ) (i : ℕ) → i < length block → i < length lent → set (part f block lent i) i (f (get_or block i 0)) ≡ part f block lent (suc i)
part_more f [] lent i h l = absurd (not-suc-le-zero h)
part_more f (x ∷ xs) [] i h l = absurd (not-suc-le-zero l)
part_more f (x ∷ xs) (y ∷ ys) zero h l = refl
part_more f (x ∷ xs) (y ∷ ys) (suc i) h l = ap (λ (r : List ℕ). f x ∷ r) (part_more f xs ys i (le_of_suc-le-suc h) (le_of_suc-le-suc l))

more : (f : ℕ → ℕ) (block lent now : List ℕ) (i v : ℕ) → i < length block → i < length lent → now ≡ part f block lent i → v ≡ f (get_or block i 0) → set now i v ≡ part f block lent (i + 1)
more f block lent now i v h l e w = rw (e, w, add-one) (part_more f block lent i h l)

whole : (f : ℕ → ℕ) (block lent : List ℕ) (i : ℕ) → i ≡ length block → part f block lent i ≡ map f block ++ drop (length block) lent
whole f block lent i e = rw (e, take-length block)

pub neither : (n v r : ℕ) → n ≤ v → n ≤ r → (ltb v n || ltb r n) ≡ false
neither n v r h k = rw (le-ltb v n h, le-ltb r n k)

one : (n v r : ℕ) → (v < n) ⊎ ((n ≤ v) × (r < n)) → ltb v n || ltb r n ≡ true
one n v r (inl h) = rw (lt-ltb v n h)
one n v r (inr h) = rw (le-ltb v n h.0, lt-ltb r n h.1)

-- where the loop stands: i elements of each lent block are written
pub record Filled (entry : ℕ → Outcome ℕ) (block v₀ r₀ v r : List ℕ) (i : ℕ) : Type 0 where
  pub values : v ≡ part (λ n. value_of (entry n)) block v₀ i
  pub refusals : r ≡ part (λ n. number_of (entry n)) block r₀ i

module _ (entry : ℕ → Outcome ℕ) (block v₀ r₀ : List ℕ) where
  -- what the entry over the block promises of its answer and of the lent blocks afterwards
  abbrev pub Done : Outcome ℕ → List ℕ → List ℕ → Type 0
  Done o v r = (o ≡ block_of block v₀ r₀) × (v ≡ values_after entry block v₀ r₀) × (r ≡ refusals_after entry block v₀ r₀)

  pub no_room : (length v₀ < length block) ⊎ ((length block ≤ length v₀) × (length r₀ < length block)) → Done (refused 10) v₀ r₀
  no_room h =
      let z : block_of block v₀ r₀ ≡ refused 10 = hit _ _ _ _ (one _ _ _ h) in
      (sym z, subst (λ (o : Outcome ℕ). v₀ ≡ filled o (λ n. value_of (entry n)) block v₀) (sym z) refl, subst (λ (o : Outcome ℕ). r₀ ≡ filled o (λ n. number_of (entry n)) block r₀) (sym z) refl)

  pub begin : Filled entry block v₀ r₀ v₀ r₀ 0
  begin = record { values = refl; refusals = refl }

  module _ (l : length block ≤ length v₀) (m : length block ≤ length r₀) (v r : List ℕ) (i : ℕ) (w : Filled entry block v₀ r₀ v r i) where
    pub again : (o : Outcome ℕ) (a k : ℕ) → i < length block → o ≡ entry (get_or block i 0) → a ≡ value_of o → k ≡ number_of o → Filled entry block v₀ r₀ (set v i a) (set r i k) (i + 1)
    again o a k h e p q = record {
      values = more (λ n. value_of (entry n)) block v₀ v i a h (omega arith) w.values (p ∙ ap value_of e);
      refusals = more (λ n. number_of (entry n)) block r₀ r i k h (omega arith) w.refusals (q ∙ ap number_of e);
    }

    pub end : i ≡ length block → Done (answered (length block)) v r
    end e =
        let z : block_of block v₀ r₀ ≡ answered (length block) = past _ _ _ _ (neither _ _ _ l m) ∙ none_answered _ in (
          sym z,
          subst (λ (o : Outcome ℕ). v ≡ filled o (λ n. value_of (entry n)) block v₀) (sym z) (w.values ∙ whole _ block v₀ i e),
          subst (λ (o : Outcome ℕ). r ≡ filled o (λ n. number_of (entry n)) block r₀) (sym z) (w.refusals ∙ whole _ block r₀ i e),
        )
