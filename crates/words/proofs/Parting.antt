-- What the words of a line are: no word holds a blank, and each with a blank behind it, then the last, are the line again.
use Prim.Native.Nat.{ℕ}
use native.Mathlib.Omega.{arith}
use lib.ListN.{length, length-append}
use mathlib.Core.Path.{◌≡◌, refl, sym, ap, ◌∙◌}
use mathlib.Core.Bool.{Bool, true, false, not, ◌&&◌}
use mathlib.Core.List.{List, [], ◌∷◌, ◌++◌, append_assoc, append-nil}
use lib.Dec.{eqb}
use borrow.Author.Tests.{eqb-true, ne_eqb}
use Rattle.words.specs.Lines.{Parts, part, parts_from, parts, spaced, plain, all_plain}
use Rattle.words.proofs.Numerals.{and_both}

spaced_snoc : (ws : List (List ℕ)) (w : List ℕ) → spaced (ws ++ (w ∷ [])) ≡ spaced ws ++ (w ++ (32 ∷ []))
unfolding spaced
spaced_snoc [] w = refl
spaced_snoc (v ∷ ws) w = ap (λ (l : List ℕ). v ++ (32 ∷ l)) (spaced_snoc ws w) ∙ sym (append_assoc v (32 ∷ spaced ws) (w ++ (32 ∷ [])))

plain_snoc : (w : List ℕ) (b : ℕ) → plain w ≡ true → eqb b 32 ≡ false → plain (w ++ (b ∷ [])) ≡ true
unfolding plain
plain_snoc [] b h e = rw e
plain_snoc (a ∷ w) b h e = let k = and_both (not (eqb a 32)) (plain w) h in rw k.0 (plain_snoc w b k.1 e)

all_plain_snoc : (ws : List (List ℕ)) (w : List ℕ) → all_plain ws ≡ true → plain w ≡ true → all_plain (ws ++ (w ∷ [])) ≡ true
unfolding all_plain
all_plain_snoc [] w h e = rw e
all_plain_snoc (v ∷ ws) w h e = let k = and_both (plain v) (all_plain ws) h in rw k.0 (all_plain_snoc ws w k.1 e)

one_more : (p : Parts) (b : ℕ) (t : Bool) → eqb b 32 ≡ t → spaced (part p b).ended ++ (part p b).next ≡ (spaced p.ended ++ p.next) ++ (b ∷ [])
one_more p b true e =
    let z = eqb-true b 32 e in
    rw (e, append-nil, spaced_snoc p.ended p.next, z) (sym (append_assoc (spaced p.ended) p.next (32 ∷ [])))
one_more p b false e = rw e (sym (append_assoc (spaced p.ended) p.next (b ∷ [])))

onward_joined : (p : Parts) (bs : List ℕ) → spaced (parts_from p bs).ended ++ (parts_from p bs).next ≡ (spaced p.ended ++ p.next) ++ bs
unfolding parts_from
onward_joined p [] = sym (append-nil (spaced p.ended ++ p.next))
onward_joined p (b ∷ bs) =
    onward_joined (part p b) bs
    ∙ ap (λ (l : List ℕ). l ++ bs) (one_more p b (eqb b 32) refl)
    ∙ append_assoc (spaced p.ended ++ p.next) (b ∷ []) bs

pub joined : (bs : List ℕ) → spaced (parts bs).ended ++ (parts bs).next ≡ bs
unfolding spaced
joined bs = onward_joined (record { ended = []; next = [] }) bs

-- a line is empty where no word of it is ended or begun
none_joined : (ws : List (List ℕ)) (w bs : List ℕ) → spaced ws ++ w ≡ bs → eqb (length ws) 0 && eqb (length w) 0 ≡ eqb (length bs) 0
unfolding spaced
none_joined [] w bs e = rw e
none_joined (v ∷ ws) w bs e =
    let l : length bs ≡ 0 → ⊥ = λ z. omega (arith, ap length e, length-append (v ++ (32 ∷ spaced ws)) w, length-append v (32 ∷ spaced ws)) in
    let k : length (v ∷ ws) ≡ 0 → ⊥ = λ z. omega arith in
    rw (ne_eqb (length (v ∷ ws)) 0 k) (sym (ne_eqb (length bs) 0 l))

pub none_so : (bs : List ℕ) → eqb (length (parts bs).ended) 0 && eqb (length (parts bs).next) 0 ≡ eqb (length bs) 0
none_so bs = none_joined (parts bs).ended (parts bs).next bs (joined bs)

one_plain : (p : Parts) (b : ℕ) (t : Bool) → eqb b 32 ≡ t → all_plain p.ended ≡ true → plain p.next ≡ true
    → (all_plain (part p b).ended ≡ true) × (plain (part p b).next ≡ true)
unfolding plain
one_plain p b true e h n = rw e (all_plain_snoc p.ended p.next h n, refl)
one_plain p b false e h n = rw e (h, plain_snoc p.next b n e)

onward_plain : (p : Parts) (bs : List ℕ) → all_plain p.ended ≡ true → plain p.next ≡ true
    → (all_plain (parts_from p bs).ended ≡ true) × (plain (parts_from p bs).next ≡ true)
unfolding parts_from
onward_plain p [] h n = (h, n)
onward_plain p (b ∷ bs) h n = let k = one_plain p b (eqb b 32) refl h n in onward_plain (part p b) bs k.0 k.1

pub unblanked : (bs : List ℕ) → (all_plain (parts bs).ended ≡ true) × (plain (parts bs).next ≡ true)
unfolding all_plain plain
unblanked bs = onward_plain (record { ended = []; next = [] }) bs refl refl
