-- A line byte by byte: its words and their readings.
use Prim.Native.Nat.{ℕ, ◌+◌, ◌≤◌, ◌<◌}
use mathlib.Core.Path.{◌≡◌, refl, sym, ap, subst, ◌∙◌}
use mathlib.Core.Logic.{⊎_elim}
use mathlib.Core.Bool.{Bool, ◌&&◌}
use mathlib.Core.List.{List, [], ◌∷◌, ◌++◌}
use native.Mathlib.Nat.{eq-or-lt_of_le}
use native.Mathlib.Omega.{arith}
use lib.Dec.{eqb}
use lib.ListN.{length, take, get_or, set, length-append, length-set, get_or-append}
use Rattle.std.proofs.Math.Seq.{get_or-append_seam}
use lib.Seq.{get_or-set_same, get_or-set_other}
use borrow.Author.Tests.{eq-eqb, ne_eqb}
use Rattle.words.specs.Lines.{Parts, part, parts_from, parts}
use Rattle.words.specs.Reading.{unread, Reads, Holds, Scans}
use Rattle.words.specs.declared.word.Word.{Word}
use Rattle.words.specs.declared.line.Line.{Line}
use Rattle.words.proofs.Parting.{none_so}

pub parts_from_snoc : (p : Parts) (bs : List ℕ) (b : ℕ) → parts_from p (bs ++ (b ∷ [])) ≡ part (parts_from p bs) b
unfolding parts_from
parts_from_snoc p [] b = refl
parts_from_snoc p (a ∷ bs) b = parts_from_snoc (part p a) bs b

parts_snoc : (bs : List ℕ) (b : ℕ) → parts (bs ++ (b ∷ [])) ≡ part (parts bs) b
parts_snoc bs b = parts_from_snoc (record { ended = []; next = [] }) bs b

length_snoc : {A : Type 0} (xs : List A) (x : A) → length (xs ++ (x ∷ [])) ≡ length xs + 1
length_snoc xs x = length-append xs (x ∷ [])

-- a word more
module _ (l : Line) (v : Word) (ws : List (List ℕ)) (w : List ℕ) (s : Holds l ws) where
  pub holds_full : 9 ≤ l.count → Holds (record { words = l.words; count = l.count; word = v }) (ws ++ (w ∷ []))
  holds_full h =
      record {
        many = rw (length_snoc ws w) (omega (arith, s.many, h));
        wide = s.wide;
        each =
            λ i k _.
            let n : i < length ws = omega (arith, s.many, h, k) in
            subst (λ (x : List ℕ). Reads (get_or l.words i unread) x) (sym (get_or-append ws (w ∷ []) [] i n)) (s.each i k n);
      }

  pub holds_more : l.count < 9 → Reads l.word w
      → Holds (record { words = set l.words l.count l.word; count = l.count + 1; word = v }) (ws ++ (w ∷ []))
  holds_more h r =
      let e : l.count ≡ length ws = omega (arith, s.many, h) in
      record {
        many = rw (length_snoc ws w) (omega arith);
        wide = length-set l.words l.count l.word ∙ s.wide;
        each =
            λ i k m.
            let n : i ≤ length ws = omega (arith, length_snoc ws w, m) in
            ⊎_elim
            (λ (q : i ≡ length ws). at_last i q e)
            (λ (q : i < length ws). before_last i k q e)
            (eq-or-lt_of_le n);
      }
    where
      at_last : (i : ℕ) → i ≡ length ws → l.count ≡ length ws → Reads (get_or (set l.words l.count l.word) i unread) (get_or (ws ++ (w ∷ [])) i [])
      at_last i q e =
          let q' : i ≡ l.count = omega arith in
          let n : l.count < length l.words = omega (arith, s.wide, h) in
          subst (λ (x : Word). Reads x (get_or (ws ++ (w ∷ [])) i []))
          (sym (ap (λ (j : ℕ). get_or (set l.words l.count l.word) j unread) q' ∙ get_or-set_same l.words l.count l.word unread n))
          (subst (λ (x : List ℕ). Reads l.word x) (sym (rw q (get_or-append_seam ws w [] []))) r)

      before_last : (i : ℕ) → i < 9 → i < length ws → l.count ≡ length ws → Reads (get_or (set l.words l.count l.word) i unread) (get_or (ws ++ (w ∷ [])) i [])
      before_last i k q e =
          subst (λ (x : Word). Reads x (get_or (ws ++ (w ∷ [])) i []))
          (sym (get_or-set_other l.words l.count i l.word unread (λ z. omega arith)))
          (subst (λ (x : List ℕ). Reads (get_or l.words i unread) x) (sym (get_or-append ws (w ∷ []) [] i q)) (s.each i k q))

-- a byte more
module _ (l : Line) (b : ℕ) (bs : List ℕ) (s : Scans l bs) where
  pub scans_more : (w : Word) → ((xs : List ℕ) → Reads l.word xs → Reads w (xs ++ (b ∷ []))) → (b ≡ 32 → ⊥)
      → Scans (record { words = l.words; count = l.count; word = w }) (bs ++ (b ∷ []))
  scans_more w f e =
      let k = ne_eqb b 32 e in
      let h = s.ended in
      record {
        ended = rw (parts_snoc bs b, k) (record { many = h.many; wide = h.wide; each = h.each });
        next = rw (parts_snoc bs b, k) (f (parts bs).next s.next);
      }

-- whether no word is ended or begun says whether the line is empty
module _ (l : Line) (bs : List ℕ) (s : Scans l bs) where
  pub empty_words : l.count ≡ 0 → eqb (length (take 16 (parts bs).next)) 0 ≡ eqb (length bs) 0
  empty_words e =
      let h : length (parts bs).ended ≡ 0 = omega (arith, s.ended.many) in
      taken (parts bs).next ∙ ap (λ (t : Bool). t && eqb (length (parts bs).next) 0) (sym (eq-eqb _ _ h)) ∙ none_so bs
    where
      taken : (xs : List ℕ) → eqb (length (take 16 xs)) 0 ≡ eqb (length xs) 0
      taken [] = refl
      taken (x ∷ xs) =
          let h : length (take 16 (x ∷ xs)) ≡ 0 → ⊥ = λ e. omega arith in
          let k : length (x ∷ xs) ≡ 0 → ⊥ = λ e. omega arith in
          ne_eqb _ _ h ∙ sym (ne_eqb _ _ k)

  pub some_words : (l.count ≡ 0 → ⊥) → eqb l.count 0 ≡ eqb (length bs) 0
  some_words e =
      let h : length (parts bs).ended ≡ 0 → ⊥ = λ z. e (omega (arith, s.ended.many)) in
      ne_eqb _ _ e ∙ ap (λ (t : Bool). t && eqb (length (parts bs).next) 0) (sym (ne_eqb _ _ h)) ∙ none_so bs
