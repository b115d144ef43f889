-- What the entries' statements mean, in the words of the demands. A listing that is answered is exactly the valid descendants, ascending, and
-- as long as the answer says; the lent buffer holds them, whatever answer and buffer satisfy the promise. A walk that is answered moves the centre,
-- and no other pair of numbers does. Assumes nothing.
use mathlib.Core.Path.{◌≡◌, sym, ap, ◌∙◌, subst}
use mathlib.Core.List.{List, [], ◌∷◌, ◌++◌}
use Prim.Native.Nat.{ℕ, ◌+◌, ◌-◌, ◌^◌, ◌≤◌, ◌<◌}
use native.Mathlib.Omega.{arith}
use lib.Dec.{eqb, ltb}
use lib.ListN.{length, drop, get_or}
use Rattle.std.proofs.Common.{Result}
use Rattle.std.proofs.Math.ListN.{get_or-append}
use Rattle.std.proofs.lemmas.List.{length-append, length-drop, get_or-append-add, get_or-drop}
use borrow.Author.Tests.{ltb-false}
use Rattle.index.specs.Layout.{res_of}
use Rattle.index.specs.Refusals.{◌when◌, Outcome, answered, refused}
use Rattle.index.specs.Check.{cell_rules}
use Rattle.index.specs.Told.{told}
use Rattle.index.specs.declared.refusal.Refusal.{Refusal}
use Rattle.index.proofs.Rules.{answered_same, answered_clear, clear_parts}
use Rattle.index.proofs.Some.{both_off}
use Rattle.index.proofs.Validity.{clear_valid}
use Rattle.descent.specs.Descendants.{Descendant, count_of, Listing}
use Rattle.descent.specs.Positions.{listing}
use Rattle.descent.proofs.Whole.{whole, length_listing}
use Rattle.walks.specs.Walks.{Moved, walked_of, carry_of}
use Rattle.walks.proofs.Walks.{walk_moved, walk_only}
use Rattle.entry.specs.Rules.{resolution_rule, onward_rule}
use Rattle.cell_entries.specs.Cells.{finer_rules, room_rule, list_of, list_short_of, afterwards}
use Rattle.step_entries.specs.Steps.{onward_rules, walk_of}

pub record Listed (n t k room : ℕ) : Type 0 where
  pub meaning : Listing n t (listing n t)
  pub count : k ≡ length (listing n t)
  pub fits : k ≤ room

pub listed : (n t room k : ℕ) → n < 2 ^ 64 → list_of n t room ≡ answered k → Listed n t k room
listed n t room k h e =
    let c = clear_parts (finer_rules n t) (room_rule n t room ∷ []) (answered_clear (finer_rules n t ++ (room_rule n t room ∷ [])) (count_of n t) k e) in
    let d = clear_parts (cell_rules n) (resolution_rule t ∷ (9 when ltb t (res_of n)) ∷ []) c.0 in
    let z = answered_same (finer_rules n t ++ (room_rule n t room ∷ [])) (count_of n t) k e in
    record {
      meaning = whole n t h (clear_valid n d.0) (ltb-false t (res_of n) d.1.1.0) (ltb-false 15 t d.1.0);
      count = sym z ∙ sym (length_listing n t);
      fits = subst (λ (x : ℕ). x ≤ room) z (ltb-false room (count_of n t) c.1.0);
    }

-- what a buffer holds after a listing of k cells: the descendants, ascending, from element 0; later elements, and its length, are what they were
pub record BufferListed (n t k : ℕ) (before after : List ℕ) : Type 0 where
  pub long : length after ≡ length before
  pub only : (p : ℕ) → p < k → Descendant n t (get_or after p 0)
  pub ascending : (p q : ℕ) → p < q → q < k → get_or after p 0 < get_or after q 0
  pub every : (y : ℕ) → Descendant n t y → (p : ℕ) × (p < k) × (get_or after p 0 ≡ y)
  pub later : (p : ℕ) → k ≤ p → get_or after p 0 ≡ get_or before p 0

-- what it holds after either answer: where the listing is refused every element is what it was
pub record BufferMeant (n t : ℕ) (r : Result ℕ Refusal) (before after : List ℕ) : Type 0 where
  pub answer : (k : ℕ) → told r ≡ answered k → BufferListed n t k before after
  pub refusal : (x : ℕ) → told r ≡ refused x → after ≡ before

-- what a list leaves of the one that it is written over
later_at : (l b : List ℕ) (k i : ℕ) → length l ≡ k → k ≤ i → get_or (l ++ drop k b) i 0 ≡ get_or b i 0
later_at l b k i e h =
    let p : i ≡ length l + (i - k) = omega arith in
    let q : k + (i - k) ≡ i = omega arith in
    ap (λ (j : ℕ). get_or (l ++ drop k b) j 0) p ∙ get_or-append-add l (drop k b) (i - k) 0 ∙ get_or-drop k b (i - k) 0 ∙ ap (λ (j : ℕ). get_or b j 0) q

module _ (n t : ℕ) (r : Result ℕ Refusal) (before after : List ℕ) (h : n < 2 ^ 64)
    (promised : (told r ≡ list_of n t (length before)) × (after ≡ afterwards (list_of n t (length before)) n t before)) where
  -- of any answer and buffer that satisfy the promise of `list`
  pub buffer_listed : BufferMeant n t r before after
  buffer_listed = record { answer = answer; refusal = λ x e. became (refused x) e }
    where
      became : (o : Outcome ℕ) → told r ≡ o → after ≡ afterwards o n t before
      became o e = promised.1 ∙ ap (λ (x : Outcome ℕ). afterwards x n t before) (sym promised.0 ∙ e)

      answer : (k : ℕ) → told r ≡ answered k → BufferListed n t k before after
      answer k e =
          let l = listed n t (length before) k h (sym promised.0 ∙ e) in
          let m = l.meaning in
          let c = l.count in
          let f = l.fits in
          let b = became (answered k) e in
          let at : (p : ℕ) → p < k → get_or after p 0 ≡ get_or (listing n t) p 0 = λ p g. ap (λ (x : List ℕ). get_or x p 0) b ∙ get_or-append (listing n t) (drop k before) 0 p (omega arith) in
          record {
            long = rw (b, length-append, length-drop k before) (omega arith);
            only = λ p g. rw (at p g) (m.only p (omega arith));
            ascending = λ p q g u. rw (at p (omega arith), at q u) (m.ascending p q g (omega arith));
            every = λ y d. let s = m.every y d in let w : s.0 < k = omega (arith, s.1) in (s.0, w, at s.0 w ∙ s.2);
            later = λ p g. ap (λ (x : List ℕ). get_or x p 0) b ∙ later_at (listing n t) before k p (sym c) g;
          }

-- of any answer and buffer that satisfy the promise of `list_short`
pub buffer_listed_short : (n : ℕ) (r : Result ℕ Refusal) (before after : List ℕ) → n < 2 ^ 64 →
    (told r ≡ list_short_of n (length before)) × (after ≡ afterwards (list_short_of n (length before)) n (res_of n + 1) before) → BufferMeant n (res_of n + 1) r before after
buffer_listed_short n = buffer_listed n (res_of n + 1)

pub record WalkMeant (n way y carry : ℕ) : Type 0 where
  pub moved : Moved n way y carry
  pub only : (z c : ℕ) → z < 2 ^ 64 → Moved n way z c → (z ≡ y) × (c ≡ carry)

pub walked : (n way y carry : ℕ) → n < 2 ^ 64 → walk_of n way ≡ answered (y, carry) → WalkMeant n way y carry
walked n way y carry h e =
    let c = clear_parts (cell_rules n) (onward_rule way ∷ []) (answered_clear (onward_rules n way) (walked_of n way, carry_of n way) (y, carry) e) in
    let v = clear_valid n c.0 in
    let w : way < 7 = omega (arith, ltb-false 6 way (both_off (eqb way 0) (ltb 6 way) c.1.0).1) in
    let z = answered_same (onward_rules n way) (walked_of n way, carry_of n way) (y, carry) e in
    let p : walked_of n way ≡ y = ap (λ (x : ℕ × ℕ). x.0) z in
    let q : carry_of n way ≡ carry = ap (λ (x : ℕ × ℕ). x.1) z in
    record {
      moved = subst (λ (x : ℕ × ℕ). Moved n way x.0 x.1) z (walk_moved n way h v w);
      only = λ x d g m. let o = walk_only n way x d g v w m in (o.0 ∙ p, o.1 ∙ q);
    }
