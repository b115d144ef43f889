-- Turns of directions and of points: the other sense undoes one, and six give back what was turned. Assumes nothing.
use mathlib.Core.Path.{◌≡◌, refl, sym, ap, ap₂, ◌∙◌, subst}
use mathlib.Core.Bool.{Bool, true, false, not, cond}
use Prim.Native.Nat.{ℕ, zero, suc, ◌≤◌, ◌<◌}
use native.Mathlib.Omega.{arith}
use borrow.Author.Tests.{ltb-true, ltb-false}
use lib.Dec.{ltb}
use lib.IntN.{ℤ, neg_ℤ, neg_ℤ-neg_ℤ, ◌-ℤ◌}
use Rattle.plane.specs.Directions.{unit, turn, turns}
use Rattle.plane.specs.Points.{Same, same, pair, ij, turned}
use Rattle.plane.specs.declared.ijk.IJK.{IJK}
use Rattle.plane.specs.declared.ijk.IJ.{IJ}
use Rattle.plane.proofs.Every.{at, at_eq, at_lt}
use Rattle.plane.proofs.Whole.{whole, diffs}
use Rattle.plane.proofs.Normal.{same_test}
use Rattle.plane.proofs.Pairs.{turned_ij, ij_turned, ij_same}

pub turn_below : (o : Bool) (d : ℕ) → d < 7 → turn o d < 7
turn_below true = at_lt 7 7 (turn true) tt
turn_below false = at_lt 7 7 (turn false) tt

pub turns_below : (o : Bool) (n d : ℕ) → d < 7 → turns o n d < 7
turns_below o zero d h = h
turns_below o (suc n) d h = turn_below o (turns o n d) (turns_below o n d h)

-- x is d after k of a count's turns: all of them where the count has no more
pub record Turned (o : Bool) (count d k x : ℕ) : Type 0 where
  pub going : k ≤ count → x ≡ turns o k d
  pub gone : count ≤ k → x ≡ turns o count d

pub unturned : (o : Bool) (count d : ℕ) → Turned o count d 0 d
unturned o count d = record { going = λ h. refl; gone = λ h. ap (λ (n : ℕ). turns o n d) (let e : 0 ≡ count = omega arith in e) }

pub turned_once_more : (o : Bool) (count d k x y : ℕ) (b : Bool) → b ≡ ltb k count → Turned o count d k x → y ≡ cond b (turn o x) x → Turned o count d (suc k) y
turned_once_more o count d k x y true eb t e =
    let l : k < count = ltb-true k count (sym eb) in
    let f : y ≡ turns o (suc k) d = e ∙ ap (turn o) (t.going (omega arith)) in
    record { going = λ h. f; gone = λ h. f ∙ ap (λ (n : ℕ). turns o n d) (let q : suc k ≡ count = omega arith in q) }
turned_once_more o count d k x y false eb t e =
    let l : count ≤ k = ltb-false k count (sym eb) in
    record { going = λ h. absurd (omega arith); gone = λ h. e ∙ t.gone l }

pub turned_below : (o : Bool) (count d k x : ℕ) → d < 7 → Turned o count d k x → x < 7
turned_below o count d k x h t = by (ltb k count) refl
  where
    by : (b : Bool) → b ≡ ltb k count → x < 7
    by true e = subst (λ (n : ℕ). n < 7) (sym (t.going (let l = ltb-true k count (sym e) in omega arith))) (turns_below o k d h)
    by false e = subst (λ (n : ℕ). n < 7) (sym (t.gone (ltb-false k count (sym e)))) (turns_below o count d h)

pub turn_undone : (o : Bool) (d : ℕ) → d < 7 → turn (not o) (turn o d) ≡ d
turn_undone true = at_eq 7 (λ (d : ℕ). turn false (turn true d)) (λ (d : ℕ). d) tt
turn_undone false = at_eq 7 (λ (d : ℕ). turn true (turn false d)) (λ (d : ℕ). d) tt

pub six_turns : (o : Bool) (d : ℕ) → d < 7 → turns o 6 d ≡ d
six_turns true = at_eq 7 (turns true 6) (λ (d : ℕ). d) tt
six_turns false = at_eq 7 (turns false 6) (λ (d : ℕ). d) tt

-- the unit vector of a turned direction is the turned unit vector
pub turn_unit : (o : Bool) (d : ℕ) → d < 7 → Same (unit (turn o d)) (turned o (unit d))
turn_unit true d h = (same_test (unit (turn true d)) (turned true (unit d))).0 (at 7 (λ (d : ℕ). same (unit (turn true d)) (turned true (unit d))) tt d h)
turn_unit false d h = (same_test (unit (turn false d)) (turned false (unit d))).0 (at 7 (λ (d : ℕ). same (unit (turn false d)) (turned false (unit d))) tt d h)

-- points, by their pairs
module _ (x y : ℤ) where
  turn_law : x -ℤ (x -ℤ y) ≡ y
  turn_law = rw (← whole x, ← whole y) (simp diffs (omega arith))

  half_law : (x -ℤ y) -ℤ x ≡ neg_ℤ y
  half_law = rw (← whole x, ← whole y) (simp diffs (omega arith))

  half_law_2 : (x -ℤ y) -ℤ x -ℤ (x -ℤ y) ≡ neg_ℤ x
  half_law_2 = rw (← whole x, ← whole y) (simp diffs (omega arith))

undone_ij : (o : Bool) (p : IJ) → turned_ij (not o) (turned_ij o p) ≡ p
undone_ij true p = ap (pair p.i) (turn_law p.i p.j)
undone_ij false p = ap (λ (x : ℤ). pair x p.j) (turn_law p.j p.i)

pub turned_undone : (o : Bool) (t : IJK) → Same (turned (not o) (turned o t)) t
turned_undone o t =
    ij_same (turned (not o) (turned o t)) t (ij_turned (not o) (turned o t) ∙ ap (turned_ij (not o)) (ij_turned o t) ∙ undone_ij o (ij t))

-- three turns give the opposite point
half_ij : (o : Bool) (p : IJ) → turned_ij o (turned_ij o (turned_ij o p)) ≡ pair (neg_ℤ p.i) (neg_ℤ p.j)
half_ij true p = ap₂ pair (half_law_2 p.i p.j) (half_law p.i p.j)
half_ij false p = ap₂ pair (half_law p.j p.i) (half_law_2 p.j p.i)

half : (o : Bool) (t : IJK) → ij (turned o (turned o (turned o t))) ≡ pair (neg_ℤ (ij t).i) (neg_ℤ (ij t).j)
half o t =
    ij_turned o (turned o (turned o t)) ∙ ap (turned_ij o) (ij_turned o (turned o t) ∙ ap (turned_ij o) (ij_turned o t)) ∙ half_ij o (ij t)

pub six_turned : (o : Bool) (t : IJK) → Same (turned o (turned o (turned o (turned o (turned o (turned o t)))))) t
six_turned o t =
    let s = turned o (turned o (turned o t)) in
    ij_same (turned o (turned o (turned o s))) t (half o s ∙ ap (λ (p : IJ). pair (neg_ℤ p.i) (neg_ℤ p.j)) (half o t) ∙ ap₂ pair (neg_ℤ-neg_ℤ (ij t).i) (neg_ℤ-neg_ℤ (ij t).j))
