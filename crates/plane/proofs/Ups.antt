-- Up by aperture 7 undoes down, whatever digit was added; so a point is a down image and a digit in one way, and in some way. Assumes nothing.
use mathlib.Core.Path.{◌≡◌, sym, ap, ap₂, ◌∙◌, subst}
use mathlib.Core.Bool.{Bool, true, false}
use Prim.Native.Nat.{ℕ, ◌+◌, ◌*◌, ◌<◌, ◌≤◌}
use native.Mathlib.Omega.{arith}
use lib.Dec.{T, lit<}
use lib.IntN.{ℤ, pos, neg_ℤ, nat_abs, ◌+ℤ◌, ◌-ℤ◌, ◌*ℤ◌, +ℤ_comm}
use lib.Signed.{le_z}
use Rattle.plane.specs.Directions.{triple, unit}
use Rattle.plane.specs.Points.{lesser, greater, largest, normal, Same, pair, ij, of_ij, plus, minus, down7, nearest, sevenfold, up7, value}
use Rattle.plane.specs.declared.ijk.IJK.{IJK}
use Rattle.plane.specs.declared.ijk.IJ.{IJ}
use Rattle.plane.proofs.Every.{at_le}
use Rattle.plane.proofs.Whole.{whole, diffs, pp, np, abs_parts, add_parts, neg_parts, mul_parts}
use Rattle.plane.proofs.Pairs.{◌⊕◌, ◌⊖◌, down_ij, ij_plus, ij_minus, ij_down7, ij_same, same_ij, ij_of_ij, of_ij_ij}
use Rattle.plane.proofs.Sevenths.{nearest_near, nearest_little}
use Rattle.plane.proofs.Normal.{normal_least}
use Rattle.plane.proofs.Distances.{span}
use Rattle.plane.proofs.Units.{small_unit, unit_normal}
use Rattle.plane.proofs.Neighbours.{cancelled, neighbour_zero, unit_cancel, differs}

-- up, of pairs
abbrev pub up_ij : Bool → IJ → IJ
up_ij o p = pair (nearest (sevenfold o p).i) (nearest (sevenfold o p).j)

module _ (x y u v : ℤ) where
  law_1 : pos 3 *ℤ (pos 2 *ℤ x +ℤ y +ℤ u) -ℤ (pos 3 *ℤ y -ℤ x +ℤ v) ≡ pos 7 *ℤ x +ℤ (pos 3 *ℤ u -ℤ v)
  law_1 = rw (← whole x, ← whole y, ← whole u, ← whole v) (simp diffs (omega arith))

  law_2 : (pos 2 *ℤ x +ℤ y +ℤ u) +ℤ pos 2 *ℤ (pos 3 *ℤ y -ℤ x +ℤ v) ≡ pos 7 *ℤ y +ℤ (u +ℤ pos 2 *ℤ v)
  law_2 = rw (← whole x, ← whole y, ← whole u, ← whole v) (simp diffs (omega arith))

  law_3 : pos 2 *ℤ (pos 3 *ℤ x -ℤ y +ℤ u) +ℤ (x +ℤ pos 2 *ℤ y +ℤ v) ≡ pos 7 *ℤ x +ℤ (pos 2 *ℤ u +ℤ v)
  law_3 = rw (← whole x, ← whole y, ← whole u, ← whole v) (simp diffs (omega arith))

  law_4 : pos 3 *ℤ (x +ℤ pos 2 *ℤ y +ℤ v) -ℤ (pos 3 *ℤ x -ℤ y +ℤ u) ≡ pos 7 *ℤ y +ℤ (pos 3 *ℤ v -ℤ u)
  law_4 = rw (← whole x, ← whole y, ← whole u, ← whole v) (simp diffs (omega arith))

sevenfold_down : (o : Bool) (p u : IJ) → sevenfold o (down_ij o p ⊕ u) ≡ pair (pos 7 *ℤ p.i +ℤ (sevenfold o u).i) (pos 7 *ℤ p.j +ℤ (sevenfold o u).j)
sevenfold_down true p u = ap₂ pair (law_1 p.i p.j u.i u.j) (law_2 p.i p.j u.i u.j)
sevenfold_down false p u = ap₂ pair (law_3 p.i p.j u.i u.j) (law_4 p.i p.j u.i u.j)

-- of a digit it is at most 3, computed at the seven
record Little (p : IJ) : Type 0 where
  i : nat_abs p.i ≤ 3
  j : nat_abs p.j ≤ 3

little : (o : Bool) (d : ℕ) → d < 7 → Little (sevenfold o (ij (unit d)))
little true d h = record { i = at_le 7 3 (λ (d : ℕ). nat_abs (sevenfold true (ij (unit d))).i) tt d h; j = at_le 7 3 (λ (d : ℕ). nat_abs (sevenfold true (ij (unit d))).j) tt d h }
little false d h = record { i = at_le 7 3 (λ (d : ℕ). nat_abs (sevenfold false (ij (unit d))).i) tt d h; j = at_le 7 3 (λ (d : ℕ). nat_abs (sevenfold false (ij (unit d))).j) tt d h }

up_down_ij : (o : Bool) (p : IJ) (d : ℕ) → d < 7 → p ≡ up_ij o (down_ij o p ⊕ ij (unit d))
up_down_ij o p d h =
    let u = ij (unit d) in
    let l = little o d h in
    ap₂ pair (nearest_little p.i (sevenfold o u).i l.i) (nearest_little p.j (sevenfold o u).j l.j)
    ∙ ap (λ (q : IJ). pair (nearest q.i) (nearest q.j)) (sym (sevenfold_down o p u))

-- the pair of a down image and a digit
pub ij_under : (o : Bool) (t : IJK) (d : ℕ) → ij (plus (down7 o t) (unit d)) ≡ down_ij o (ij t) ⊕ ij (unit d)
ij_under o t d = ij_plus (down7 o t) (unit d) ∙ ap (λ (p : IJ). p ⊕ ij (unit d)) (ij_down7 o t)

pub up_down : (o : Bool) (t : IJK) (d : ℕ) → d < 7 → (s : IJK) → Same s (plus (down7 o t) (unit d)) → up7 o s ≡ normal t
up_down o t d h s e =
    ap of_ij (ap (up_ij o) (same_ij s (plus (down7 o t) (unit d)) e ∙ ij_under o t d) ∙ sym (up_down_ij o (ij t) d h)) ∙ of_ij_ij t

pub up_undoes_down : (o : Bool) (t : IJK) → up7 o (down7 o t) ≡ normal t
up_undoes_down o t = up_down o t 0 (lit< tt) (down7 o t) (sym (neighbour_zero (down7 o t)))

-- in one way
pub one_way_ij : (o : Bool) (p q : IJ) (d e : ℕ) → d < 7 → e < 7 → down_ij o p ⊕ ij (unit d) ≡ down_ij o q ⊕ ij (unit e) → (p ≡ q) × (d ≡ e)
one_way_ij o p q d e hd he h =
    let s : p ≡ q = up_down_ij o p d hd ∙ ap (up_ij o) h ∙ sym (up_down_ij o q e he) in
    (s, unit_cancel (down_ij o q) d e hd he (ap (λ (r : IJ). down_ij o r ⊕ ij (unit d)) (sym s) ∙ h))

pub one_way : (o : Bool) (s t : IJK) (d e : ℕ) → d < 7 → e < 7 → Same (plus (down7 o s) (unit d)) (plus (down7 o t) (unit e)) → Same s t × (d ≡ e)
one_way o s t d e hd he h =
    let r = one_way_ij o (ij s) (ij t) d e hd he (sym (ij_under o s d) ∙ same_ij (plus (down7 o s) (unit d)) (plus (down7 o t) (unit e)) h ∙ ij_under o t e) in
    (ij_same s t r.0, r.1)

-- and in some way: what is left of a point over the down image of its up is a digit
back_law : (x y : ℤ) → y +ℤ (x -ℤ y) ≡ x
back_law x y = rw (← whole x, ← whole y) (simp diffs (omega arith))

left_little : (o : Bool) (p : IJ) → Little (sevenfold o (p ⊖ down_ij o (up_ij o p)))
left_little o p =
    let q = up_ij o p in
    let r = p ⊖ down_ij o q in
    let e : sevenfold o p ≡ pair (pos 7 *ℤ q.i +ℤ (sevenfold o r).i) (pos 7 *ℤ q.j +ℤ (sevenfold o r).j) =
    ap (sevenfold o) (sym (ap₂ pair (back_law p.i (down_ij o q).i) (back_law p.j (down_ij o q).j))) ∙ sevenfold_down o q r in
    record {
      i = subst (λ (z : ℤ). nat_abs z ≤ 3) (ap (λ (n : IJ). n.i -ℤ pos 7 *ℤ q.i) e ∙ cancelled (pos 7 *ℤ q.i) (sevenfold o r).i) (nearest_near (sevenfold o p).i);
      j = subst (λ (z : ℤ). nat_abs z ≤ 3) (ap (λ (n : IJ). n.j -ℤ pos 7 *ℤ q.j) e ∙ cancelled (pos 7 *ℤ q.j) (sevenfold o r).j) (nearest_near (sevenfold o p).j);
    }

-- so close to 0 are the digits only
record Close (u v : ℤ) : Type 0 where
  u_low : np u ≤ pp u + 1
  u_high : pp u ≤ np u + 1
  v_low : np v ≤ pp v + 1
  v_high : pp v ≤ np v + 1
  low : np u + pp v ≤ pp u + np v + 1
  high : pp u + np v ≤ np u + pp v + 1

close : (u v : ℤ) → nat_abs (pos 3 *ℤ u -ℤ v) ≤ 3 → nat_abs (u +ℤ pos 2 *ℤ v) ≤ 3 → Close u v
close u v p q =
    let a : (3 * pp u + np v ≤ 3 * np u + pp v + 3) × (3 * np u + pp v ≤ 3 * pp u + np v + 3) =
    omega (arith, abs_parts (pos 3 *ℤ u -ℤ v), add_parts (pos 3 *ℤ u) (neg_ℤ v), neg_parts v, mul_parts 3 u) in
    let b : (pp u + 2 * pp v ≤ np u + 2 * np v + 3) × (np u + 2 * np v ≤ pp u + 2 * pp v + 3) =
    omega (arith, abs_parts (u +ℤ pos 2 *ℤ v), add_parts u (pos 2 *ℤ v), mul_parts 2 v) in
    let ul : np u ≤ pp u + 1 = omega arith in
    let uh : pp u ≤ np u + 1 = omega arith in
    let vl : np v ≤ pp v + 1 = omega arith in
    let vh : pp v ≤ np v + 1 = omega arith in
    record { u_low = ul; u_high = uh; v_low = vl; v_high = vh; low = omega arith; high = omega arith }

-- the largest component of the point of a pair
abbrev size : ℤ → ℤ → ℤ
size x y = greater x (greater y (pos 0)) -ℤ lesser x (lesser y (pos 0))

close_size : (u v : ℤ) → Close u v → T (le_z (size u v) (pos 1))
close_size u v c = rw (← whole u, ← whole v) (simp diffs (omega arith))

left : (o : Bool) (r : IJ) → Little (sevenfold o r) → T (le_z (size r.i r.j) (pos 1))
left true r l = close_size r.i r.j (close r.i r.j l.i l.j)
left false r l =
    let c = close r.j r.i l.j (subst (λ (z : ℤ). nat_abs z ≤ 3) (+ℤ_comm (pos 2 *ℤ r.i) r.j) l.i) in
    close_size r.i r.j (record { u_low = c.v_low; u_high = c.v_high; v_low = c.u_low; v_high = c.u_high; low = omega arith; high = omega arith })

pub some_way : (o : Bool) (t : IJK) → (d : ℕ) × (d < 7) × Same t (plus (down7 o (up7 o t)) (unit d))
some_way o t =
    let q = down7 o (up7 o t) in
    let r = minus t q in
    let e : ij r ≡ ij t ⊖ down_ij o (up_ij o (ij t)) = ij_minus t q ∙ ap (λ (p : IJ). ij t ⊖ p) (ij_down7 o (up7 o t) ∙ ap (down_ij o) (ij_of_ij (up_ij o (ij t)))) in
    let l : largest (normal r) ≡ size (ij r).i (ij r).j = ap largest (sym (of_ij_ij r)) ∙ span (triple (ij r).i (ij r).j (pos 0)) in
    let f = small_unit (normal r) (normal_least r) (subst (λ (z : ℤ). T (le_z z (pos 1))) (sym (l ∙ ap (λ (p : IJ). size p.i p.j) e)) (left o (ij t ⊖ down_ij o (up_ij o (ij t))) (left_little o (ij t)))) in
    let d = value (normal r) in
    (d, f.0, differs t q d (f.1 ∙ sym (unit_normal d f.0)))
