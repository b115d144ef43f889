-- Wherever a step answers inside with turn number 0, in any base cell, the step from that answer in direction 7 - d is inside with turn number 0
-- and gives the cell back. With turn number t the way back is 7 - d turned t times counter-clockwise, with turn number (6 - t) mod 6. Assumes nothing.
use mathlib.Core.Path.{◌≡◌, refl, sym, ap, ap₂, ◌∙◌, subst}
use mathlib.Core.Bool.{Bool, true, false, not, cond}
use mathlib.Core.List.{List, [], ◌∷◌, map}
use Prim.Native.Nat.{ℕ, zero, suc, ◌-◌, ◌%◌, ◌^◌, ◌<◌, ◌≤◌}
use native.Mathlib.Omega.{arith}
use lib.Dec.{T, lit<, eqb, eqb→eq}
use lib.IntN.{ℤ, pos, ◌+ℤ◌}
use lib.ListN.{length}
use Rattle.plane.specs.Directions.{unit, turn, turns}
use Rattle.plane.specs.Points.{Same, equal, pair, ij, plus}
use Rattle.plane.specs.Strings.{Digits, odd, centre, carried, joint}
use Rattle.plane.specs.declared.ijk.IJ.{IJ}
use Rattle.plane.proofs.Every.{every, at, at_eq}
use Rattle.plane.proofs.Whole.{whole, diffs, equal_eq}
use Rattle.plane.proofs.Pairs.{◌⊕◌, down_ij, ij_plus, ij_down7, ij_same, same_ij}
use Rattle.index.specs.Layout.{base_of, is_pentagonal, Valid}
use Rattle.index.specs.View.{used, pack, first, Fit}
use Rattle.index.specs.Refusals.{answered}
use Rattle.turns.proofs.Turning.{length_turned, first_turned, turned_undone}
use Rattle.index.proofs.View.{fit, packed, pack_base, pack_res, pack_used}
use Rattle.walks.specs.Tables.{new_digit, adjustment}
use Rattle.walks.specs.Walks.{walked, left_over, carry_of}
use Rattle.grid.specs.Steps.{inside, step_of}
use Rattle.walks.proofs.Tables.{at_pair, adjusted_below}
use Rattle.walks.proofs.Walks.{assoc, length_walked, digits_walked, walked_joint, walked_only}
use Rattle.grid.proofs.Steps.{olds, news, staying, turning_ccw, turning_cw, fit_news, fit_turned}
use Rattle.grid.proofs.Inside.{Case, left, stayed, deleted, ccw, cw, cases, within, never}

-- a carry of 0 adds nothing
zero_ij : IJ
zero_ij = pair (pos 0) (pos 0)

down_zero : (o : Bool) → down_ij o zero_ij ≡ zero_ij
unfolding zero_ij
down_zero true = refl
down_zero false = refl

carried_zero : (r : ℕ) → ij (carried r 0) ≡ zero_ij
unfolding zero_ij
carried_zero zero = refl
carried_zero (suc r) = ij_down7 (odd (suc r)) (carried r 0) ∙ ap (down_ij (odd (suc r))) (carried_zero r) ∙ down_zero (odd (suc r))

add_zero : (x : ℤ) → x +ℤ pos 0 ≡ x
add_zero x = rw (← whole x) (simp diffs (omega arith))

plus_zero : (p : IJ) → p ⊕ zero_ij ≡ p
unfolding zero_ij
plus_zero p = ap₂ pair (add_zero p.i) (add_zero p.j)

pub joint_zero : (ds : List ℕ) → ij (joint ds 0) ≡ ij (centre ds)
joint_zero ds = ij_plus (centre ds) (carried (length ds) 0) ∙ ap (λ (p : IJ). ij (centre ds) ⊕ p) (carried_zero (length ds)) ∙ plus_zero (ij (centre ds))

-- a direction and the one opposite to it
opposite : (d : ℕ) → d < 7 → ij (unit d) ⊕ ij (unit (7 - d)) ≡ zero_ij
unfolding zero_ij
opposite d h =
    ap₂ pair
    (equal_eq ((ij (unit d)).i +ℤ (ij (unit (7 - d))).i) (pos 0) (at 7 (λ (d : ℕ). equal ((ij (unit d)).i +ℤ (ij (unit (7 - d))).i) (pos 0)) tt d h))
    (equal_eq ((ij (unit d)).j +ℤ (ij (unit (7 - d))).j) (pos 0) (at 7 (λ (d : ℕ). equal ((ij (unit d)).j +ℤ (ij (unit (7 - d))).j) (pos 0)) tt d h))

-- of strings
pub walked_back : (ds : List ℕ) (way : ℕ) → Digits ds → 1 ≤ way → way < 7 → left_over ds way ≡ 0 → (ds ≡ walked (walked ds way) (7 - way)) × (0 ≡ left_over (walked ds way) (7 - way))
walked_back ds way h l hw z =
    let es = walked ds way in
    let e : ij (centre es) ≡ ij (centre ds) ⊕ ij (unit way) =
    sym (joint_zero es) ∙ same_ij (joint es 0) (plus (centre ds) (unit way)) (subst (λ (c : ℕ). Same (joint es c) (plus (centre ds) (unit way))) z (walked_joint ds way h hw)) ∙ ij_plus (centre ds) (unit way) in
    let b : ij (joint ds 0) ≡ ij (plus (centre es) (unit (7 - way))) =
    joint_zero ds
    ∙ sym (plus_zero (ij (centre ds)))
    ∙ ap (λ (p : IJ). ij (centre ds) ⊕ p) (sym (opposite way hw))
    ∙ sym (assoc (ij (centre ds)) (ij (unit way)) (ij (unit (7 - way))))
    ∙ ap (λ (p : IJ). p ⊕ ij (unit (7 - way))) (sym e)
    ∙ sym (ij_plus (centre es) (unit (7 - way))) in
    walked_only es ds (7 - way) 0 (sym (length_walked ds way)) (digits_walked ds way h hw).0 h (omega arith) (lit< tt)
    (ij_same (joint ds 0) (plus (centre es) (unit (7 - way))) b)

-- the tables turn with what they are given: rotation and down change places
turned_test : (f : Bool → ℕ → ℕ → ℕ) (p o : Bool) → ℕ → ℕ → Bool
turned_test f p o d way = eqb (f p (turn o d) (turn o way)) (turn o (f p d way))

digits_turn : (p o : Bool) → T (every 7 (λ d. every 7 (turned_test new_digit p o d)))
unfolding turned_test
digits_turn true true = tt
digits_turn true false = tt
digits_turn false true = tt
digits_turn false false = tt

adjusted_turn : (p o : Bool) → T (every 7 (λ d. every 7 (turned_test adjustment p o d)))
unfolding turned_test
adjusted_turn true true = tt
adjusted_turn true false = tt
adjusted_turn false true = tt
adjusted_turn false false = tt

turned_entry : (f : Bool → ℕ → ℕ → ℕ) (p o : Bool) → T (every 7 (λ d. every 7 (turned_test f p o d))) → (d way : ℕ) → d < 7 → way < 7 → f p (turn o d) (turn o way) ≡ turn o (f p d way)
unfolding turned_test
turned_entry f p o t d way h hw = eqb→eq (f p (turn o d) (turn o way)) (turn o (f p d way)) (at_pair (turned_test f p o) t d way h hw)

pub walk_turned : (o : Bool) (ds : List ℕ) (way : ℕ) → Digits ds → way < 7 → (walked (map (turns o 1) ds) (turn o way) ≡ map (turns o 1) (walked ds way)) × (left_over (map (turns o 1) ds) (turn o way) ≡ turn o (left_over ds way))
walk_turned o [] way h hw = (refl, refl)
walk_turned o (d ∷ ds) way h hw =
    let p = odd (suc (length ds)) in
    let l : odd (suc (length (map (turns o 1) ds))) ≡ p = ap (λ (m : ℕ). odd (suc m)) (length_turned o 1 ds) in
    let n = ap (λ (b : Bool). new_digit b (turn o d) (turn o way)) l ∙ turned_entry new_digit p o (digits_turn p o) d way h.0 hw in
    let a = ap (λ (b : Bool). adjustment b (turn o d) (turn o way)) l ∙ turned_entry adjustment p o (adjusted_turn p o) d way h.0 hw in
    let r = walk_turned o ds (adjustment p d way) h.1 (adjusted_below p d way h.0 hw) in
    (ap₂ ◌∷◌ n (ap (walked (map (turns o 1) ds)) a ∙ r.0), ap (left_over (map (turns o 1) ds)) a ∙ r.1)

turn_zero : (o : Bool) → turn o 0 ≡ 0
turn_zero true = refl
turn_zero false = refl

-- five turns are one in the other sense
five : (d : ℕ) → d < 7 → turns true 5 d ≡ turn false d
five = at_eq 7 (turns true 5) (turn false) tt

-- of cells
module _ (n way : ℕ) (h : n < 2 ^ 64) (v : Valid n) (l : 1 ≤ way) (hw : way < 7) where
  back : (m : ℕ) → carry_of n way ≡ 0 → (is_pentagonal (base_of n) ≡ true → first (news n way) ≡ 1 → ⊥) → pack (base_of n) (news n way) ≡ m → step_of m (7 - way) ≡ answered (inside n 0)
  unfolding carry_of
  back m z k e =
      let f = fit_news n way v hw k in
      let b = walked_back (olds n) way (fit n v).digits l hw z in
      let eb : base_of m ≡ base_of n = ap base_of (sym e) ∙ pack_base (base_of n) (news n way) f in
      let eo : olds m ≡ news n way = ap olds (sym e) ∙ ap (used (pack (base_of n) (news n way))) (pack_res (base_of n) (news n way) f) ∙ pack_used (base_of n) (news n way) f in
      let en : news m (7 - way) ≡ olds n = ap (λ (xs : List ℕ). walked xs (7 - way)) eo ∙ sym b.0 in
      let ec : carry_of m (7 - way) ≡ 0 = ap (λ (xs : List ℕ). left_over xs (7 - way)) eo ∙ sym b.1 in
      staying m (7 - way) ec (λ q g. (fit n v).kept (ap is_pentagonal (sym eb) ∙ q) (ap first (sym en) ∙ g))
      ∙ ap (λ (x : ℕ). answered (inside x 0)) (ap₂ pack eb en ∙ packed n h v)

  -- the answer was turned: the way back reaches the deleted digits from the other side
  module _ (o : Bool) (m : ℕ) (z : carry_of n way ≡ 0) (q : is_pentagonal (base_of n) ≡ true) (g : first (news n way) ≡ 1) (f : first (olds n) ≡ cond o 3 5) (e : pack (base_of n) (map (turns o 1) (news n way)) ≡ m) where
    es : List ℕ
    es = map (turns o 1) (news n way)

    fits : Fit (base_of n) es
    unfolding es
    fits = fit_turned n way v hw o g

    bases : base_of m ≡ base_of n
    unfolding es
    bases = ap base_of (sym e) ∙ pack_base (base_of n) es fits

    origin : olds m ≡ es
    unfolding es
    origin = ap olds (sym e) ∙ ap (used (pack (base_of n) es)) (pack_res (base_of n) es fits) ∙ pack_used (base_of n) es fits

    walks : (news m (turn o (7 - way)) ≡ map (turns o 1) (olds n)) × (carry_of m (turn o (7 - way)) ≡ 0)
    unfolding es carry_of
    walks =
        let b = walked_back (olds n) way (fit n v).digits l hw z in
        let t = walk_turned o (news n way) (7 - way) (digits_walked (olds n) way (fit n v).digits hw).0 (omega arith) in (
          ap (λ (xs : List ℕ). walked xs (turn o (7 - way))) origin ∙ t.0 ∙ ap (map (turns o 1)) (sym b.0),
          ap (λ (xs : List ℕ). left_over xs (turn o (7 - way))) origin ∙ t.1 ∙ ap (turn o) (sym b.1) ∙ turn_zero o,
        )

    one : (o : Bool) → turns o 1 (cond o 3 5) ≡ 1
    one true = refl
    one false = refl

    deleted_again : first (news m (turn o (7 - way))) ≡ 1
    deleted_again = ap first walks.0 ∙ first_turned o 1 (olds n) (fit n v).digits ∙ ap (turns o 1) f ∙ one o

    origin_first : first (olds m) ≡ turns o 1 1
    unfolding es
    origin_first = ap first origin ∙ first_turned o 1 (news n way) (digits_walked (olds n) way (fit n v).digits hw).0 ∙ ap (turns o 1) g

    given_back : pack (base_of m) (map (turns (not o) 1) (news m (turn o (7 - way)))) ≡ n
    given_back = ap₂ pack bases (ap (map (turns (not o) 1)) walks.0 ∙ turned_undone o 1 (olds n) (fit n v).digits) ∙ packed n h v

  back_ccw : (m : ℕ) → carry_of n way ≡ 0 → is_pentagonal (base_of n) ≡ true → first (news n way) ≡ 1 → first (olds n) ≡ 3 → pack (base_of n) (map (turns true 1) (news n way)) ≡ m → step_of m (turn true (7 - way)) ≡ answered (inside n 5)
  back_ccw m z q g f e =
      let a : first (olds m) ≡ 5 = origin_first true m z q g f e in
      turning_cw m (turn true (7 - way)) (walks true m z q g f e).1 (ap is_pentagonal (bases true m z q g f e) ∙ q) (deleted_again true m z q g f e) (λ x. omega arith) (λ x. omega arith)
      ∙ ap (λ (x : ℕ). answered (inside x 5)) (given_back true m z q g f e)

  back_cw : (m : ℕ) → carry_of n way ≡ 0 → is_pentagonal (base_of n) ≡ true → first (news n way) ≡ 1 → first (olds n) ≡ 5 → pack (base_of n) (map (turns false 1) (news n way)) ≡ m → step_of m (turn false (7 - way)) ≡ answered (inside n 1)
  back_cw m z q g f e =
      turning_ccw m (turn false (7 - way)) (walks false m z q g f e).1 (ap is_pentagonal (bases false m z q g f e) ∙ q) (deleted_again false m z q g f e) (origin_first false m z q g f e)
      ∙ ap (λ (x : ℕ). answered (inside x 1)) (given_back false m z q g f e)

  pub way_back : (m t : ℕ) → step_of n way ≡ answered (inside m t) → step_of m (turns true t (7 - way)) ≡ answered (inside n ((6 - t) % 6))
  way_back m t e = go (cases n way v hw)
    where
      at_turn : (u : ℕ) → u ≡ t → step_of m (turns true u (7 - way)) ≡ answered (inside n ((6 - u) % 6)) → step_of m (turns true t (7 - way)) ≡ answered (inside n ((6 - t) % 6))
      at_turn u q s = subst (λ (u : ℕ). step_of m (turns true u (7 - way)) ≡ answered (inside n ((6 - u) % 6))) q s

      go : Case n way → step_of m (turns true t (7 - way)) ≡ answered (inside n ((6 - t) % 6))
      go (left f s) = (never (step_of n way) m t e).0 (carry_of n way) s
      go (stayed z k s) = let w = within (step_of n way) _ 0 m t s e in at_turn 0 w.1 (back m z k w.0)
      go (deleted z p g f s) = (never (step_of n way) m t e).1 17 s
      go (ccw z p g f s) = let w = within (step_of n way) _ 1 m t s e in at_turn 1 w.1 (back_ccw m z p g f w.0)
      go (cw z p g f s) =
          let w = within (step_of n way) _ 5 m t s e in
          at_turn 5 w.1 (subst (λ (x : ℕ). step_of m x ≡ answered (inside n 1)) (sym (five (7 - way) (omega arith))) (back_cw m z p g f w.0))
