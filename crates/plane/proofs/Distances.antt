-- The distance is 0 exactly for one point, symmetric, unchanged by moving both points, and never more than a detour. Assumes nothing.
use mathlib.Core.Path.{◌≡◌, sym, ap, ap₂, ◌∙◌, subst}
use mathlib.Core.Logic.{◌↔◌}
use native.Mathlib.Omega.{arith}
use lib.Dec.{T}
use lib.IntN.{ℤ, pos, neg_ℤ, ◌+ℤ◌, ◌-ℤ◌}
use lib.Signed.{le_z, ◌≤ℤ◌}
use Rattle.plane.specs.Directions.{triple}
use Rattle.plane.specs.Points.{lesser, greater, least, largest, normal, Same, pair, ij, plus, minus, distance}
use Rattle.plane.specs.declared.ijk.IJK.{IJK}
use Rattle.plane.specs.declared.ijk.IJ.{IJ}
use Rattle.plane.proofs.Whole.{whole, diffs}
use Rattle.plane.proofs.Pairs.{shift_plus, ij_minus, ij_same, same_ij, triple_path}

-- the largest component of a normal form, as the largest less the least
span_law : (a b c : ℤ) → greater (a -ℤ lesser a (lesser b c)) (greater (b -ℤ lesser a (lesser b c)) (c -ℤ lesser a (lesser b c))) ≡ greater a (greater b c) -ℤ lesser a (lesser b c)
span_law a b c = rw (← whole a, ← whole b, ← whole c) (simp diffs (omega arith))

pub span : (t : IJK) → largest (normal t) ≡ largest t -ℤ least t
span t = span_law t.i t.j t.k

zero_law : (a b c : ℤ) → greater a (greater b c) -ℤ lesser a (lesser b c) ≡ pos 0 → (a ≡ c) × (b ≡ c)
zero_law a b c e =
    let h = simp diffs at (rw (← whole a, ← whole b, ← whole c) at e) in
    (rw (← whole a, ← whole c) (simp diffs (omega arith)), rw (← whole b, ← whole c) (simp diffs (omega arith)))

cross : (a b c d : ℤ) → a -ℤ b ≡ c -ℤ d → a -ℤ c ≡ b -ℤ d
cross a b c d e =
    let h = simp diffs at (rw (← whole a, ← whole b, ← whole c, ← whole d) at e) in
    rw (← whole a, ← whole b, ← whole c, ← whole d) (simp diffs (omega arith))

self_law : (a b : ℤ) → a ≡ b → a -ℤ b ≡ pos 0
self_law a b e =
    let h = simp diffs at (rw (← whole a, ← whole b) at e) in
    rw (← whole a, ← whole b) (simp diffs (omega arith))

pub distance_zero : (s t : IJK) → (distance s t ≡ pos 0) ↔ Same s t
distance_zero s t = (
  λ e.
      let z = zero_law (s.i -ℤ t.i) (s.j -ℤ t.j) (s.k -ℤ t.k) (sym (span (minus s t)) ∙ e) in
      ij_same s t (ap₂ pair (cross s.i t.i s.k t.k z.0) (cross s.j t.j s.k t.k z.1)),
  λ e.
      let p = same_ij s t e in
      let q : ij (minus s t) ≡ pair (pos 0) (pos 0) = ij_minus s t ∙ ap₂ pair (self_law (ij s).i (ij t).i (ap (λ (u : IJ). u.i) p)) (self_law (ij s).j (ij t).j (ap (λ (u : IJ). u.j) p)) in
      ap largest (ij_same (minus s t) (triple (pos 0) (pos 0) (pos 0)) q),
)

-- the opposite triple has the opposite ends
module _ (a b c : ℤ) where
  flip_greater : greater (neg_ℤ a) (greater (neg_ℤ b) (neg_ℤ c)) ≡ neg_ℤ (lesser a (lesser b c))
  flip_greater = rw (← whole a, ← whole b, ← whole c) (simp diffs (omega arith))

  flip_lesser : lesser (neg_ℤ a) (lesser (neg_ℤ b) (neg_ℤ c)) ≡ neg_ℤ (greater a (greater b c))
  flip_lesser = rw (← whole a, ← whole b, ← whole c) (simp diffs (omega arith))

  flip : greater (neg_ℤ a) (greater (neg_ℤ b) (neg_ℤ c)) -ℤ lesser (neg_ℤ a) (lesser (neg_ℤ b) (neg_ℤ c)) ≡ greater a (greater b c) -ℤ lesser a (lesser b c)
  flip = ap₂ ◌-ℤ◌ flip_greater flip_lesser ∙ ends (greater a (greater b c)) (lesser a (lesser b c))
    where
      ends : (x y : ℤ) → neg_ℤ y -ℤ neg_ℤ x ≡ x -ℤ y
      ends x y = rw (← whole x, ← whole y) (simp diffs (omega arith))

opposite : (a b : ℤ) → a -ℤ b ≡ neg_ℤ (b -ℤ a)
opposite a b = rw (← whole a, ← whole b) (simp diffs (omega arith))

reach_law : (a b c : ℤ) → T (le_z (pos 0) (greater a (greater b c) -ℤ lesser a (lesser b c)))
reach_law a b c = rw (← whole a, ← whole b, ← whole c) (simp diffs (omega arith))

pub distance_least : (s t : IJK) → T (le_z (pos 0) (distance s t))
distance_least s t = rw (span (minus s t)) (reach_law (s.i -ℤ t.i) (s.j -ℤ t.j) (s.k -ℤ t.k))

pub distance_sym : (s t : IJK) → distance s t ≡ distance t s
distance_sym s t =
    let d = minus t s in
    let e : minus s t ≡ triple (neg_ℤ d.i) (neg_ℤ d.j) (neg_ℤ d.k) = triple_path _ _ _ _ _ _ (opposite s.i t.i) (opposite s.j t.j) (opposite s.k t.k) in
    span (minus s t) ∙ ap (λ (u : IJK). largest u -ℤ least u) e ∙ flip d.i d.j d.k ∙ sym (span d)

pub distance_moved : (s t u : IJK) → distance (plus s u) (plus t u) ≡ distance s t
distance_moved s t u =
    ap (λ (d : IJK). largest (normal d))
    (triple_path _ _ _ _ _ _ (shift_plus s.i t.i u.i) (shift_plus s.j t.j u.j) (shift_plus s.k t.k u.k))

module _ (a b c d e f : ℤ) where
  greater_add : T (le_z (greater (a +ℤ d) (greater (b +ℤ e) (c +ℤ f))) (greater a (greater b c) +ℤ greater d (greater e f)))
  greater_add = rw (← whole a, ← whole b, ← whole c, ← whole d, ← whole e, ← whole f) (simp diffs (omega arith))

  lesser_add : T (le_z (lesser a (lesser b c) +ℤ lesser d (lesser e f)) (lesser (a +ℤ d) (lesser (b +ℤ e) (c +ℤ f))))
  lesser_add = rw (← whole a, ← whole b, ← whole c, ← whole d, ← whole e, ← whole f) (simp diffs (omega arith))

-- of three ends each
ends_add : (x y u v w z : ℤ) → T (le_z x (u +ℤ w)) → T (le_z (v +ℤ z) y) → T (le_z (x -ℤ y) ((u -ℤ v) +ℤ (w -ℤ z)))
ends_add x y u v w z p q =
    let p' = simp diffs at (rw (← whole x, ← whole u, ← whole w) at p) in
    let q' = simp diffs at (rw (← whole v, ← whole z, ← whole y) at q) in
    rw (← whole x, ← whole y, ← whole u, ← whole v, ← whole w, ← whole z) (simp diffs (omega arith))

detour : (a b c : ℤ) → a -ℤ c ≡ (a -ℤ b) +ℤ (b -ℤ c)
detour a b c = rw (← whole a, ← whole b, ← whole c) (simp diffs (omega arith))

pub distance_triangle : (s t u : IJK) → distance s u ≤ℤ (distance s t +ℤ distance t u)
distance_triangle s t u =
    let a = minus s t in
    let b = minus t u in
    let e : minus s u ≡ plus a b = triple_path _ _ _ _ _ _ (detour s.i t.i u.i) (detour s.j t.j u.j) (detour s.k t.k u.k) in
    let p = greater_add a.i a.j a.k b.i b.j b.k in
    let q = lesser_add a.i a.j a.k b.i b.j b.k in
    let le : T (le_z (largest (plus a b) -ℤ least (plus a b)) ((largest a -ℤ least a) +ℤ (largest b -ℤ least b))) = ends_add (largest (plus a b)) (least (plus a b)) (largest a) (least a) (largest b) (least b) p q in
    record { le = subst (λ (z : ℤ). T (le_z z (distance s t +ℤ distance t u))) (sym (ap (λ (d : IJK). largest (normal d)) e ∙ span (plus a b))) (subst (λ (z : ℤ). T (le_z (largest (plus a b) -ℤ least (plus a b)) z)) (sym (ap₂ ◌+ℤ◌ (span a) (span b))) le) }
