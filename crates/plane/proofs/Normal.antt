-- Normalising gives the one triple of the point whose least component is 0; one point are exactly the triples that differ by one number in all three.
-- Assumes nothing.
use mathlib.Core.Path.{◌≡◌, ap, ap₂, ◌∙◌}
use mathlib.Core.Logic.{◌↔◌}
use mathlib.Core.Bool.{◌&&◌}
use native.Mathlib.Omega.{arith}
use lib.Dec.{T}
use lib.IntN.{ℤ, pos, ◌+ℤ◌, ◌-ℤ◌}
use Rattle.plane.specs.Directions.{triple}
use Rattle.plane.specs.Points.{lesser, least, normal, Same, same, equal, pair, ij, plus}
use Rattle.plane.specs.declared.ijk.IJK.{IJK}
use Rattle.plane.specs.declared.ijk.IJ.{IJ}
use Rattle.plane.proofs.Every.{left, right, both}
use Rattle.plane.proofs.Whole.{whole, diffs, equal_eq, eq_equal}
use Rattle.plane.proofs.Pairs.{shift_plus, ij_normal, ij_same, same_ij, triple_path, self}

least_law : (a b c : ℤ) → lesser (a -ℤ lesser a (lesser b c)) (lesser (b -ℤ lesser a (lesser b c)) (c -ℤ lesser a (lesser b c))) ≡ pos 0
least_law a b c = rw (← whole a, ← whole b, ← whole c) (simp diffs (omega arith))

pub normal_least : (t : IJK) → least (normal t) ≡ pos 0
normal_least t = least_law t.i t.j t.k

pub normal_same : (t : IJK) → Same (normal t) t
normal_same t = ij_same (normal t) t (ij_normal t)

less_zero : (a m : ℤ) → m ≡ pos 0 → a ≡ a -ℤ m
less_zero a m e = let h = simp diffs at (rw (← whole m) at e) in rw (← whole a, ← whole m) (simp diffs (omega arith))

pub normal_one : (s t : IJK) → Same s t → least s ≡ pos 0 → s ≡ normal t
normal_one s t e z =
    triple_path _ _ _ _ _ _ (less_zero s.i (least s) z) (less_zero s.j (least s) z) (less_zero s.k (least s) z) ∙ e

-- the triples of one point
moved_law : (a c a' c' : ℤ) → a -ℤ c ≡ a' -ℤ c' → a ≡ a' +ℤ (c -ℤ c')
moved_law a c a' c' e =
    let h = simp diffs at (rw (← whole a, ← whole c, ← whole a', ← whole c') at e) in
    rw (← whole a, ← whole c, ← whole a', ← whole c') (simp diffs (omega arith))

pub same_moved : (s t : IJK) → Same s t ↔ ((m : ℤ) × (s ≡ plus t (triple m m m)))
same_moved s t = (
  λ e.
      let p = same_ij s t e in
      let m = s.k -ℤ t.k in
      (m, triple_path _ _ _ _ _ _ (moved_law s.i s.k t.i t.k (ap (λ (u : IJ). u.i) p)) (moved_law s.j s.k t.j t.k (ap (λ (u : IJ). u.j) p)) (moved_law s.k s.k t.k t.k (self s.k t.k))),
  λ w. ij_same s t (ap ij w.1 ∙ ap₂ pair (shift_plus t.i t.k w.0) (shift_plus t.j t.k w.0)),
)

-- the test says so
pub same_test : (s t : IJK) → T (same s t) ↔ Same s t
same_test s t =
    let a = normal s in
    let b = normal t in
    let x = equal a.i b.i in
    let y = equal a.j b.j in
    let z = equal a.k b.k in (
      λ h.
          triple_path _ _ _ _ _ _ (equal_eq a.i b.i (left x (y && z) h)) (equal_eq a.j b.j (left y z (right x (y && z) h))) (equal_eq a.k b.k (right y z (right x (y && z) h))),
      λ e.
          both x (y && z) (eq_equal a.i b.i (ap (λ (u : IJK). u.i) e)) (both y z (eq_equal a.j b.j (ap (λ (u : IJK). u.j) e)) (eq_equal a.k b.k (ap (λ (u : IJK). u.k) e))),
    )
