-- A line begins with some names, a blank behind each, exactly where these are its first words and another follows.
use Prim.Native.Nat.{ℕ}
use mathlib.Core.Path.{◌≡◌, refl, sym, ap, subst, ◌∙◌}
use mathlib.Core.Bool.{Bool, true, false, cond, not}
use mathlib.Core.List.{List, [], ◌∷◌, ◌++◌, append_assoc, append-nil}
use lib.Dec.{eqb}
use borrow.Author.Tests.{eqb-true, eq-eqb}
use Rattle.std.proofs.lemmas.Bool.{not-true}
use Rattle.words.specs.Lines.{Parts, parts_from, parts, words_of, spaced, plain, all_plain, starts_with}
use Rattle.words.proofs.Numerals.{and_both}
use Rattle.words.proofs.Parting.{joined}

-- the words of a line that goes on so
abbrev words_on : Parts → List ℕ → List (List ℕ)
words_on p bs = (parts_from p bs).ended ++ ((parts_from p bs).next ∷ [])

abbrev words_from : List (List ℕ) → List ℕ → List ℕ → List (List ℕ)
words_from e n bs = words_on (record { ended = e; next = n }) bs

-- a byte more, which is a blank or not
abbrev after : List (List ℕ) → List ℕ → ℕ → List ℕ → Bool → List (List ℕ)
after e n b bs t = words_on (cond t (record { ended = e ++ (n ∷ []); next = [] }) (record { ended = e; next = n ++ (b ∷ []) })) bs

step : (e : List (List ℕ)) (n : List ℕ) (b : ℕ) (bs : List ℕ) (t : Bool) → eqb b 32 ≡ t → words_from e n (b ∷ bs) ≡ after e n b bs t
unfolding parts_from
step e n b bs t h = ap (λ (t : Bool). after e n b bs t) h

after_before : (e : List (List ℕ)) (n : List ℕ) (b : ℕ) (bs : List ℕ) (t : Bool)
    → ((e : List (List ℕ)) (n : List ℕ) → words_from e n bs ≡ e ++ words_from [] n bs) → after e n b bs t ≡ e ++ after [] n b bs t
after_before e n b bs true f =
    f (e ++ (n ∷ [])) [] ∙ append_assoc e (n ∷ []) (words_from [] [] bs) ∙ ap (λ (l : List (List ℕ)). e ++ l) (sym (f (n ∷ []) []))
after_before e n b bs false f = f e (n ++ (b ∷ []))

before : (bs : List ℕ) (e : List (List ℕ)) (n : List ℕ) → words_from e n bs ≡ e ++ words_from [] n bs
unfolding parts_from
before [] e n = refl
before (b ∷ bs) e n =
    step e n b bs (eqb b 32) refl
    ∙ after_before e n b bs (eqb b 32) (before bs)
    ∙ ap (λ (l : List (List ℕ)). e ++ l) (sym (step [] n b bs (eqb b 32) refl))

-- a word and the blank behind it
one_word : (n w r : List ℕ) → plain w ≡ true → words_from [] n (w ++ (32 ∷ r)) ≡ (n ++ w) ∷ words_from [] [] r
unfolding plain
one_word n [] r h = step [] n 32 r true refl ∙ before r (n ∷ []) [] ∙ ap (λ (v : List ℕ). v ∷ words_from [] [] r) (sym (append-nil n))
one_word n (b ∷ w) r h =
    let k = and_both (not (eqb b 32)) (plain w) h in
    step [] n b (w ++ (32 ∷ r)) false (not-true (eqb b 32) k.0)
    ∙ one_word (n ++ (b ∷ [])) w r k.1
    ∙ ap (λ (v : List ℕ). v ∷ words_from [] [] r) (append_assoc n (b ∷ []) w)

pub words_spaced : (ns : List (List ℕ)) (r : List ℕ) → all_plain ns ≡ true → words_of (spaced ns ++ r) ≡ ns ++ words_of r
unfolding spaced all_plain
words_spaced [] r h = refl
words_spaced (w ∷ ns) r h =
    let k = and_both (plain w) (all_plain ns) h in
    ap (λ (l : List ℕ). words_of l) (append_assoc w (32 ∷ spaced ns) r) ∙ one_word [] w (spaced ns ++ r) k.0 ∙ ap (λ (l : List (List ℕ)). w ∷ l) (words_spaced ns r k.1)

starts_rest : (a bs : List ℕ) → starts_with a bs ≡ true → (r : List ℕ) × (bs ≡ a ++ r)
starts_rest [] bs h = (bs, refl)
starts_rest (x ∷ a) [] h = cc
starts_rest (x ∷ a) (b ∷ bs) h =
    let k = and_both (eqb b x) (starts_with a bs) h in
    let s = starts_rest a bs k.1 in
    let e = eqb-true b x k.0 in
    (s.0, ap (λ (y : ℕ). y ∷ bs) e ∙ ap (λ (l : List ℕ). x ∷ l) s.1)

starts_both : (a b c : List ℕ) → starts_with (a ++ b) (a ++ c) ≡ starts_with b c
starts_both [] b c = refl
starts_both (x ∷ a) b c = rw (eq-eqb x x refl) (starts_both a b c)

starts_front : (ns ws e : List (List ℕ)) (w n : List ℕ) → e ++ (n ∷ []) ≡ ns ++ (w ∷ ws) → starts_with (spaced ns) (spaced e ++ n) ≡ true
unfolding spaced
starts_front [] ws e w n h = refl
starts_front (v ∷ []) ws [] w n h = cc
starts_front (v ∷ u ∷ ns) ws [] w n h = cc
starts_front (v ∷ ns) ws (x ∷ e) w n h =
    let f : x ≡ v = cc in
    let g : e ++ (n ∷ []) ≡ ns ++ (w ∷ ws) = cc in
    rw (f, append_assoc v (32 ∷ spaced e) n, starts_both v (32 ∷ spaced ns) (32 ∷ (spaced e ++ n))) (starts_front ns ws e w n g)

pub names_first : (ns : List (List ℕ)) (bs : List ℕ) → all_plain ns ≡ true → starts_with (spaced ns) bs ≡ true → (r : List ℕ) × (words_of bs ≡ ns ++ words_of r)
names_first ns bs p h = let s = starts_rest (spaced ns) bs h in (s.0, ap (λ (l : List ℕ). words_of l) s.1 ∙ words_spaced ns s.0 p)

pub first_names : (ns ws : List (List ℕ)) (w bs : List ℕ) → words_of bs ≡ ns ++ (w ∷ ws) → starts_with (spaced ns) bs ≡ true
first_names ns ws w bs h =
    let j = joined bs in
    subst (λ (l : List ℕ). starts_with (spaced ns) l ≡ true) j (starts_front ns ws (parts bs).ended w (parts bs).next h)
