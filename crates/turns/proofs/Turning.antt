-- Turns of digit strings and of cells. Said of the digits, a turn by a count is that many single turns, six give the digits back, and the
-- other sense undoes one; the pentagon turn of a cell is a cell, and at resolution 0 the cell itself. Assumes nothing.
use mathlib.Core.Path.{◌≡◌, refl, sym, ap, ap₂, ◌∙◌, subst}
use mathlib.Core.Bool.{Bool, true, false, not, cond}
use mathlib.Core.Logic.{⊎_elim}
use mathlib.Core.List.{List, [], ◌∷◌, map}
use Prim.Native.Nat.{ℕ, zero, suc, ◌^◌, ◌≤◌, ◌<◌}
use native.Mathlib.Nat.{eq-zero-or-pos}
use native.Mathlib.Omega.{arith}
use lib.Dec.{T, eqb, lit<}
use lib.ListN.{length}
use borrow.Author.Tests.{eq-eqb, ne_eqb}
use Rattle.plane.specs.Directions.{turn, turns}
use Rattle.plane.specs.Strings.{Digits}
use Rattle.plane.proofs.Every.{every, at}
use Rattle.plane.proofs.Turns.{turns_below, turn_undone, six_turns}
use Rattle.index.specs.Layout.{res_of, base_of, is_pentagonal, Valid}
use Rattle.index.specs.View.{used, pack, first, Fit}
use Rattle.turns.specs.Turns.{turned_by, pentagon_count, pentagon_turned}
use Rattle.index.proofs.Runs.{length_used}
use Rattle.index.proofs.View.{packed, fit, pack_valid, pack_res, pack_base}
use Rattle.index.proofs.Loose.{loose_base, loose_res, loose_used}

-- strings
pub length_turned : (o : Bool) (k : ℕ) (ds : List ℕ) → length (map (turns o k) ds) ≡ length ds
length_turned o k [] = refl
length_turned o k (d ∷ ds) = ap suc (length_turned o k ds)

pub digits_turned : (o : Bool) (k : ℕ) (ds : List ℕ) → Digits ds → Digits (map (turns o k) ds)
digits_turned o k [] h = tt
digits_turned o k (d ∷ ds) h = (turns_below o k d h.0, digits_turned o k ds h.1)

pub turned_none : (o : Bool) (ds : List ℕ) → map (turns o 0) ds ≡ ds
turned_none o [] = refl
turned_none o (d ∷ ds) = ap (λ (es : List ℕ). d ∷ es) (turned_none o ds)

pub turned_once_more : (o : Bool) (k : ℕ) (ds : List ℕ) → map (turns o (suc k)) ds ≡ map (turns o 1) (map (turns o k) ds)
turned_once_more o k [] = refl
turned_once_more o k (d ∷ ds) = ap (λ (es : List ℕ). turns o (suc k) d ∷ es) (turned_once_more o k ds)

pub six_turned : (o : Bool) (ds : List ℕ) → Digits ds → map (turns o 6) ds ≡ ds
six_turned o [] h = refl
six_turned o (d ∷ ds) h = ap₂ ◌∷◌ (six_turns o d h.0) (six_turned o ds h.1)

turn_within : (o : Bool) (k d : ℕ) → turn o (turns o k d) ≡ turns o k (turn o d)
turn_within o zero d = refl
turn_within o (suc k) d = ap (turn o) (turn_within o k d)

turns_undone : (o : Bool) (k d : ℕ) → d < 7 → turns (not o) k (turns o k d) ≡ d
turns_undone o zero d h = refl
turns_undone o (suc k) d h =
    turn_within (not o) k (turn o (turns o k d)) ∙ ap (turns (not o) k) (turn_undone o (turns o k d) (turns_below o k d h)) ∙ turns_undone o k d h

pub turned_undone : (o : Bool) (k : ℕ) (ds : List ℕ) → Digits ds → map (turns (not o) k) (map (turns o k) ds) ≡ ds
turned_undone o k [] h = refl
turned_undone o k (d ∷ ds) h = ap₂ ◌∷◌ (turns_undone o k d h.0) (turned_undone o k ds h.1)

-- the first digit that is not 0 is turned with the others
turns_zero : (o : Bool) (k : ℕ) → turns o k 0 ≡ 0
turns_zero true zero = refl
turns_zero true (suc k) = ap (turn true) (turns_zero true k)
turns_zero false zero = refl
turns_zero false (suc k) = ap (turn false) (turns_zero false k)

not_zero : (o : Bool) (k d : ℕ) → d < 7 → turns o k d ≡ 0 → d ≡ 0
not_zero o k d h e = sym (turns_undone o k d h) ∙ ap (turns (not o) k) e ∙ turns_zero (not o) k

pub first_below : (ds : List ℕ) → Digits ds → first ds < 7
unfolding first
first_below [] h = lit< tt
first_below (d ∷ ds) h = pick (eqb (first ds) 0) d (first ds) h.0 (first_below ds h.1)
  where
    pick : (b : Bool) (x y : ℕ) → x < 7 → y < 7 → cond b x y < 7
    pick true x y p q = p
    pick false x y p q = q

pub first_turned : (o : Bool) (k : ℕ) (ds : List ℕ) → Digits ds → first (map (turns o k) ds) ≡ turns o k (first ds)
unfolding first
first_turned o k [] h = sym (turns_zero o k)
first_turned o k (d ∷ ds) h =
    let e = first_turned o k ds h.1 in
    ⊎_elim
    (λ (z : first ds ≡ 0). let y : first (map (turns o k) ds) ≡ 0 = e ∙ ap (turns o k) z ∙ turns_zero o k in rw (y, z))
    (λ (z : 0 < first ds).
    let a = ne_eqb (first ds) 0 (λ q. omega arith) in
    let b = ne_eqb (first (map (turns o k) ds)) 0 (λ q. let y = not_zero o k (first ds) (first_below ds h.1) (sym e ∙ q) in omega arith) in
    rw (a, b) e)
    (eq-zero-or-pos (first ds))

-- the pentagon turn
no_one : (f : ℕ → ℕ) → T (every 7 (λ x. not (eqb (f x) 1))) → (x : ℕ) → x < 7 → f x ≡ 1 → ⊥
no_one f t x h e = subst T (ap not (eq-eqb (f x) 1 e)) (at 7 (λ (x : ℕ). not (eqb (f x) 1)) t x h)

pentagon_first : (o : Bool) (x : ℕ) → x < 7 → turns o (cond (eqb x (cond o 3 5)) 2 1) x ≡ 1 → ⊥
pentagon_first true x h = no_one (λ (x : ℕ). turns true (cond (eqb x 3) 2 1) x) tt x h
pentagon_first false x h = no_one (λ (x : ℕ). turns false (cond (eqb x 5) 2 1) x) tt x h

module _ (o : Bool) (n : ℕ) (v : Valid n) where
  abbrev ds : List ℕ
  ds = used n (res_of n)

  -- turned by a count all but the last rule of a cell are kept
  pub fit_turned : (k : ℕ) → (is_pentagonal (base_of n) ≡ true → turns o k (first ds) ≡ 1 → ⊥) → Fit (base_of n) (map (turns o k) ds)
  fit_turned k kept =
      let f = fit n v in
      record {
        base = f.base;
        short = rw length_turned f.short;
        digits = digits_turned o k ds f.digits;
        kept = λ q e. kept q (sym (first_turned o k ds f.digits) ∙ e);
      }

  -- also where refusal 7 names it, the turned number has the base cell, the resolution and the turned digits
  module _ (k : ℕ) where
    room : length (map (turns o k) ds) ≤ 15
    room = rw length_turned (fit n v).short

    base_room : base_of n ≤ 127
    base_room = omega (arith, v.base)

    pub turned_base : base_of (turned_by o k n) ≡ base_of n
    unfolding turned_by
    turned_base = loose_base (base_of n) (map (turns o k) ds) base_room room (digits_turned o k ds (fit n v).digits)

    pub turned_res : res_of (turned_by o k n) ≡ res_of n
    unfolding turned_by
    turned_res = loose_res (base_of n) (map (turns o k) ds) base_room room (digits_turned o k ds (fit n v).digits) ∙ length_turned o k ds ∙ length_used n (res_of n)

    pub turned_used : used (turned_by o k n) (res_of n) ≡ map (turns o k) ds
    unfolding turned_by
    turned_used =
        subst (λ (r : ℕ). used (pack (base_of n) (map (turns o k) ds)) r ≡ map (turns o k) ds) (length_turned o k ds ∙ length_used n (res_of n))
        (loose_used (base_of n) (map (turns o k) ds) base_room room (digits_turned o k ds (fit n v).digits))

  pub fit_pentagon_turned : Fit (base_of n) (map (turns o (pentagon_count o ds)) ds)
  fit_pentagon_turned = fit_turned (pentagon_count o ds) (λ q. pentagon_first o (first ds) (first_below ds (fit n v).digits))

  -- also in hexagon base cells
  pub pentagon_turned_valid : Valid (pentagon_turned o n)
  unfolding pentagon_turned turned_by
  pentagon_turned_valid = pack_valid (base_of n) (map (turns o (pentagon_count o ds)) ds) fit_pentagon_turned

  pub pentagon_turned_base : base_of (pentagon_turned o n) ≡ base_of n
  unfolding pentagon_turned turned_by
  pentagon_turned_base = pack_base (base_of n) (map (turns o (pentagon_count o ds)) ds) fit_pentagon_turned

  pub pentagon_turned_res : res_of (pentagon_turned o n) ≡ res_of n
  unfolding pentagon_turned turned_by
  pentagon_turned_res = pack_res (base_of n) (map (turns o (pentagon_count o ds)) ds) fit_pentagon_turned ∙ length_turned o (pentagon_count o ds) ds ∙ length_used n (res_of n)

  pub pentagon_turned_coarsest : n < 2 ^ 64 → res_of n ≡ 0 → pentagon_turned o n ≡ n
  unfolding pentagon_turned turned_by used
  pentagon_turned_coarsest h e = coarsest (res_of n) e (packed n h v)
    where
      coarsest : (r : ℕ) → r ≡ 0 → pack (base_of n) (used n r) ≡ n → pack (base_of n) (map (turns o (pentagon_count o (used n r))) (used n r)) ≡ n
      coarsest zero e p = p
      coarsest (suc r) e p = absurd (let q = e in omega arith)
