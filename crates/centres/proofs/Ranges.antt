-- A cell's centre lies within the entry range. Two downs, one of each sense, are seven times the point: so two digits at a time. Assumes nothing.
use mathlib.Core.Path.{◌≡◌, sym, ap, ap₂, ◌∙◌, subst}
use mathlib.Core.Bool.{Bool, true, false, not}
use mathlib.Core.List.{List, [], ◌∷◌}
use Prim.Native.Nat.{ℕ, zero, suc, ◌+◌, ◌*◌, ◌<◌, ◌≤◌}
use native.Mathlib.Omega.{arith}
use lib.Dec.{T, le→leb, lit≤}
use lib.IntN.{ℤ, pos, nat_abs, ◌+ℤ◌, ◌-ℤ◌, ◌*ℤ◌}
use lib.ListN.{length}
use Rattle.plane.specs.Directions.{unit}
use Rattle.plane.specs.Points.{pair, ij}
use Rattle.plane.specs.Ranges.{in_range, point_in_range, Within}
use Rattle.plane.specs.Strings.{Digits, odd, centre}
use Rattle.plane.specs.declared.ijk.IJ.{IJ}
use Rattle.plane.proofs.Every.{at_le, both}
use Rattle.plane.proofs.Whole.{whole, diffs}
use Rattle.plane.proofs.Bounds.{abs_add, abs_mul}
use Rattle.plane.proofs.Pairs.{◌⊕◌, down_ij}
use Rattle.plane.proofs.Centres.{down_add, ij_centre, centre_normal}
use Rattle.plane.proofs.Sizes.{normal_within}
use Rattle.index.specs.Layout.{res_of, Valid}
use Rattle.index.specs.View.{used}
use Rattle.index.proofs.View.{fit}
use Rattle.centres.specs.Centres.{centre_of}

module _ (x y : ℤ) where
  law_1 : pos 3 *ℤ (pos 2 *ℤ x +ℤ y) -ℤ (pos 3 *ℤ y -ℤ x) ≡ pos 7 *ℤ x
  law_1 = rw (← whole x, ← whole y) (simp diffs (omega arith))

  law_2 : (pos 2 *ℤ x +ℤ y) +ℤ pos 2 *ℤ (pos 3 *ℤ y -ℤ x) ≡ pos 7 *ℤ y
  law_2 = rw (← whole x, ← whole y) (simp diffs (omega arith))

  law_3 : pos 2 *ℤ (pos 3 *ℤ x -ℤ y) +ℤ (x +ℤ pos 2 *ℤ y) ≡ pos 7 *ℤ x
  law_3 = rw (← whole x, ← whole y) (simp diffs (omega arith))

  law_4 : pos 3 *ℤ (x +ℤ pos 2 *ℤ y) -ℤ (pos 3 *ℤ x -ℤ y) ≡ pos 7 *ℤ y
  law_4 = rw (← whole x, ← whole y) (simp diffs (omega arith))

seven : (o : Bool) (p : IJ) → down_ij (not o) (down_ij o p) ≡ pair (pos 7 *ℤ p.i) (pos 7 *ℤ p.j)
seven true p = ap₂ pair (law_1 p.i p.j) (law_2 p.i p.j)
seven false p = ap₂ pair (law_3 p.i p.j) (law_4 p.i p.j)

record Small (n : ℕ) (p : IJ) : Type 0 where
  i : nat_abs p.i ≤ n
  j : nat_abs p.j ≤ n

unit_small : (d : ℕ) → d < 7 → Small 1 (ij (unit d))
unit_small d h =
    record { i = at_le 7 1 (λ (d : ℕ). nat_abs (ij (unit d)).i) tt d h; j = at_le 7 1 (λ (d : ℕ). nat_abs (ij (unit d)).j) tt d h }

down_small : (o : Bool) (d : ℕ) → d < 7 → Small 3 (down_ij o (ij (unit d)))
down_small true d h =
    record { i = at_le 7 3 (λ (d : ℕ). nat_abs (down_ij true (ij (unit d))).i) tt d h; j = at_le 7 3 (λ (d : ℕ). nat_abs (down_ij true (ij (unit d))).j) tt d h }
down_small false d h =
    record { i = at_le 7 3 (λ (d : ℕ). nat_abs (down_ij false (ij (unit d))).i) tt d h; j = at_le 7 3 (λ (d : ℕ). nat_abs (down_ij false (ij (unit d))).j) tt d h }

add_small : (m n : ℕ) (p q : IJ) → Small m p → Small n q → Small (m + n) (p ⊕ q)
add_small m n p q a b = record { i = omega (arith, abs_add p.i q.i, a.i, b.i); j = omega (arith, abs_add p.j q.j, a.j, b.j) }

seven_small : (n : ℕ) (p : IJ) → Small n p → Small (7 * n) (pair (pos 7 *ℤ p.i) (pos 7 *ℤ p.j))
seven_small n p a = record { i = omega (arith, abs_mul 7 p.i, a.i); j = omega (arith, abs_mul 7 p.j, a.j) }

abbrev bound : ℕ → ℕ
bound zero = 0
bound (suc zero) = 1
bound (suc (suc r)) = 7 * bound r + 3 + 1

centre_small : (ds : List ℕ) → Digits ds → Small (bound (length ds)) (ij (centre ds))
centre_small [] h = record { i = lit≤ tt; j = lit≤ tt }
centre_small (d ∷ []) h =
    record {
      i = at_le 7 1 (λ (d : ℕ). nat_abs (ij (centre (d ∷ []))).i) tt d h.0;
      j = at_le 7 1 (λ (d : ℕ). nat_abs (ij (centre (d ∷ []))).j) tt d h.0;
    }
centre_small (d ∷ e ∷ ds) h =
    let o = odd (suc (length ds)) in
    let c = ij (centre ds) in
    let n = bound (length ds) in
    let p : ij (centre (d ∷ e ∷ ds)) ≡ pair (pos 7 *ℤ c.i) (pos 7 *ℤ c.j) ⊕ down_ij (not o) (ij (unit e)) ⊕ ij (unit d) =
    ij_centre d (e ∷ ds)
    ∙ ap (λ (q : IJ). q ⊕ ij (unit d)) (ap (down_ij (not o)) (ij_centre e ds) ∙ down_add (not o) (down_ij o c) (ij (unit e)) ∙ ap (λ (q : IJ). q ⊕ down_ij (not o) (ij (unit e))) (seven o c)) in
    subst (Small (7 * n + 3 + 1)) (sym p)
    (add_small (7 * n + 3) 1 (pair (pos 7 *ℤ c.i) (pos 7 *ℤ c.j) ⊕ down_ij (not o) (ij (unit e))) (ij (unit d))
    (add_small (7 * n) 3 (pair (pos 7 *ℤ c.i) (pos 7 *ℤ c.j)) (down_ij (not o) (ij (unit e))) (seven_small n c (centre_small ds h.1.1)) (down_small (not o) e h.1.0))
    (unit_small d h.0))

bound_small : (r : ℕ) → r < 16 → bound r ≤ 50000000
bound_small = at_le 16 50000000 bound tt

pub centre_within : (n : ℕ) → Valid n → Within 100000000 (centre_of n)
unfolding centre_of
centre_within n v =
    let ds = used n (res_of n) in
    let s = centre_small ds (fit n v).digits in
    let l : bound (length ds) ≤ 50000000 = bound_small (length ds) (omega (arith, (fit n v).short)) in
    subst (Within 100000000) (centre_normal ds) (normal_within 50000000 (centre ds) (record { i = omega (arith, s.i); j = omega (arith, s.j) }))

pub centre_in_range : (n : ℕ) → Valid n → T (point_in_range (centre_of n))
centre_in_range n v =
    let w = centre_within n v in
    let t = centre_of n in
    both (in_range t.i) _ (le→leb (nat_abs t.i) 100000000 w.i) (both (in_range t.j) (in_range t.k) (le→leb (nat_abs t.j) 100000000 w.j) (le→leb (nat_abs t.k) 100000000 w.k))
