-- Which first digits a walk that leaves nothing over can have, before and after: no string whose first digit is 2, 4 or 6 becomes one whose first
-- digit is 1, and a string of zeros does only in direction 1. By a test of three numbers that each digit keeps. Assumes nothing.
use mathlib.Core.Path.{◌≡◌, sym, subst}
use mathlib.Core.Bool.{Bool, true, false, not, cond, ◌||◌}
use mathlib.Core.Logic.{◌⊎◌, inl, inr}
use mathlib.Core.List.{List, [], ◌∷◌}
use Prim.Native.Nat.{ℕ, suc, ◌+◌, ◌%◌, ◌<◌}
use lib.Dec.{T, eqb, eqb→eq}
use lib.ListN.{length}
use Rattle.plane.specs.Strings.{Digits, odd}
use Rattle.plane.proofs.Every.{every}
use Rattle.index.specs.View.{first}
use Rattle.turns.proofs.Turning.{first_below}
use Rattle.walks.specs.Tables.{new_digit, adjustment}
use Rattle.walks.specs.Walks.{walked, left_over}
use Rattle.walks.proofs.Tables.{at_pair, adjusted_below}
use Rattle.walks.proofs.Walks.{digits_walked}

-- the first digits f of the old and g of the new string, and the direction
reached : ℕ → ℕ → ℕ → Bool
reached f g way =
    cond (eqb f 0) (cond (eqb g 0) (eqb way 0) (cond (eqb g 1) (eqb way 1) true))
    (cond (eqb (f % 2) 0) (cond (eqb g 0) (eqb (f + way) 7) (not (eqb g 1))) true)

-- with a finer digit in front
kept : Bool → ℕ → ℕ → ℕ → ℕ → Bool
kept o f g d way = not (reached f g (adjustment o d way)) || reached (cond (eqb f 0) d f) (cond (eqb g 0) (new_digit o d way) g) way

kept_all : (o : Bool) → T (every 7 (λ f. every 7 (λ g. every 7 (λ d. every 7 (kept o f g d)))))
unfolding kept reached
kept_all true = tt
kept_all false = tt

implied : (a b : Bool) → T (not a || b) → T a → T b
implied true true t h = tt
implied true false t h = absurd t
implied false b t h = absurd h

keeps : (o : Bool) (f g d way : ℕ) → f < 7 → g < 7 → d < 7 → way < 7 → T (reached f g (adjustment o d way)) → T (reached (cond (eqb f 0) d f) (cond (eqb g 0) (new_digit o d way) g) way)
unfolding kept
keeps o f g d way hf hg hd hw =
    implied (reached f g (adjustment o d way)) (reached (cond (eqb f 0) d f) (cond (eqb g 0) (new_digit o d way) g) way)
    (at_pair (kept o f g) (at_pair (λ (f g : ℕ). every 7 (λ d. every 7 (kept o f g d))) (kept_all o) f g hf hg) d way hd hw)

reach : (ds : List ℕ) (way : ℕ) → Digits ds → way < 7 → left_over ds way ≡ 0 → T (reached (first ds) (first (walked ds way)) way)
unfolding first reached
reach [] way h hw e = subst (λ (x : ℕ). T (reached 0 0 x)) (sym e) tt
reach (d ∷ ds) way h hw e =
    let o = odd (suc (length ds)) in
    let a = adjustment o d way in
    let ha = adjusted_below o d way h.0 hw in
    keeps o (first ds) (first (walked ds a)) d way (first_below ds h.1) (first_below (walked ds a) (digits_walked ds a h.1 ha).0) h.0 hw (reach ds a h.1 ha e)

-- the old first digit where the new one is 1
origin : ℕ → ℕ → Bool
origin f way = not (reached f 1 way) || (eqb f 0 || (eqb f 1 || (eqb f 3 || eqb f 5)))

origin_all : T (every 7 (λ f. every 7 (origin f)))
unfolding origin reached
origin_all = tt

either : (a b : Bool) → T (a || b) → T a ⊎ T b
either true b t = inl tt
either false b t = inr t

-- of four digits, without the second
one_of : (f : ℕ) → T (eqb f 0 || (eqb f 1 || (eqb f 3 || eqb f 5))) → (f ≡ 1 → ⊥) → (f ≡ 0) ⊎ ((f ≡ 3) ⊎ (f ≡ 5))
one_of f t not-one = split (either (eqb f 0) (eqb f 1 || (eqb f 3 || eqb f 5)) t)
  where
    last : T (eqb f 3) ⊎ T (eqb f 5) → (f ≡ 0) ⊎ ((f ≡ 3) ⊎ (f ≡ 5))
    last (inl x) = inr (inl (eqb→eq f 3 x))
    last (inr x) = inr (inr (eqb→eq f 5 x))

    more : T (eqb f 1) ⊎ T (eqb f 3 || eqb f 5) → (f ≡ 0) ⊎ ((f ≡ 3) ⊎ (f ≡ 5))
    more (inl x) = absurd (not-one (eqb→eq f 1 x))
    more (inr x) = last (either (eqb f 3) (eqb f 5) x)

    split : T (eqb f 0) ⊎ T (eqb f 1 || (eqb f 3 || eqb f 5)) → (f ≡ 0) ⊎ ((f ≡ 3) ⊎ (f ≡ 5))
    split (inl x) = inl (eqb→eq f 0 x)
    split (inr x) = more (either (eqb f 1) (eqb f 3 || eqb f 5) x)

pub origins : (ds : List ℕ) (way : ℕ) → Digits ds → way < 7 → left_over ds way ≡ 0 → first (walked ds way) ≡ 1 → (first ds ≡ 1 → ⊥) → (first ds ≡ 0) ⊎ ((first ds ≡ 3) ⊎ (first ds ≡ 5))
unfolding origin
origins ds way h hw e g =
    let f = first ds in
    one_of f
    (implied (reached f 1 way) (eqb f 0 || (eqb f 1 || (eqb f 3 || eqb f 5))) (at_pair origin origin_all f way (first_below ds h) hw)
    (subst (λ (x : ℕ). T (reached f x way)) g (reach ds way h hw e)))

pub from_zeros : (ds : List ℕ) (way : ℕ) → Digits ds → way < 7 → left_over ds way ≡ 0 → first (walked ds way) ≡ 1 → first ds ≡ 0 → way ≡ 1
unfolding reached
from_zeros ds way h hw e g z = eqb→eq way 1 (subst (λ (x : ℕ). T (reached x 1 way)) z (subst (λ (x : ℕ). T (reached (first ds) x way)) g (reach ds way h hw e)))
