-- The IJ form tells the point: two triples are one point exactly where their IJ forms are equal, and sums and images of triples are sums and images of pairs.
-- Assumes nothing.
use mathlib.Core.Path.{◌≡◌, sym, ap, ap₂, ◌∙◌}
use mathlib.Core.Bool.{Bool, true, false}
use native.Mathlib.Omega.{arith}
use lib.IntN.{ℤ, pos, neg_ℤ, ◌+ℤ◌, ◌-ℤ◌, ◌*ℤ◌, +ℤ_idr}
use Rattle.plane.specs.Directions.{triple}
use Rattle.plane.specs.Points.{lesser, least, normal, Same, pair, ij, plus, minus, down7, turned, of_ij}
use Rattle.plane.specs.declared.ijk.IJK.{IJK}
use Rattle.plane.specs.declared.ijk.IJ.{IJ}
use Rattle.plane.proofs.Whole.{whole, diffs}

infixl 6 ◌⊕◌
abbrev pub ◌⊕◌ : IJ → IJ → IJ
p ⊕ q = pair (p.i +ℤ q.i) (p.j +ℤ q.j)

infixl 6 ◌⊖◌
abbrev pub ◌⊖◌ : IJ → IJ → IJ
p ⊖ q = pair (p.i -ℤ q.i) (p.j -ℤ q.j)

plus_law : (a b c d : ℤ) → (a +ℤ b) -ℤ (c +ℤ d) ≡ (a -ℤ c) +ℤ (b -ℤ d)
plus_law a b c d = rw (← whole a, ← whole b, ← whole c, ← whole d) (simp diffs (omega arith))

pub ij_plus : (s t : IJK) → ij (plus s t) ≡ ij s ⊕ ij t
ij_plus s t = ap₂ pair (plus_law s.i t.i s.k t.k) (plus_law s.j t.j s.k t.k)

minus_law : (a b c d : ℤ) → (a -ℤ b) -ℤ (c -ℤ d) ≡ (a -ℤ c) -ℤ (b -ℤ d)
minus_law a b c d = rw (← whole a, ← whole b, ← whole c, ← whole d) (simp diffs (omega arith))

pub ij_minus : (s t : IJK) → ij (minus s t) ≡ ij s ⊖ ij t
ij_minus s t = ap₂ pair (minus_law s.i t.i s.k t.k) (minus_law s.j t.j s.k t.k)

-- down by aperture 7 and a turn, of pairs
abbrev pub down_ij : Bool → IJ → IJ
down_ij true p = pair (pos 2 *ℤ p.i +ℤ p.j) (pos 3 *ℤ p.j -ℤ p.i)
down_ij false p = pair (pos 3 *ℤ p.i -ℤ p.j) (p.i +ℤ pos 2 *ℤ p.j)

abbrev pub turned_ij : Bool → IJ → IJ
turned_ij true p = pair (p.i -ℤ p.j) p.i
turned_ij false p = pair p.j (p.j -ℤ p.i)

module _ (i j k : ℤ) where
  row_1 : (pos 3 *ℤ i +ℤ pos 1 *ℤ j +ℤ pos 0 *ℤ k) -ℤ (pos 1 *ℤ i +ℤ pos 0 *ℤ j +ℤ pos 3 *ℤ k) ≡ pos 2 *ℤ (i -ℤ k) +ℤ (j -ℤ k)
  row_1 = rw (← whole i, ← whole j, ← whole k) (simp diffs (omega arith))

  row_2 : (pos 0 *ℤ i +ℤ pos 3 *ℤ j +ℤ pos 1 *ℤ k) -ℤ (pos 1 *ℤ i +ℤ pos 0 *ℤ j +ℤ pos 3 *ℤ k) ≡ pos 3 *ℤ (j -ℤ k) -ℤ (i -ℤ k)
  row_2 = rw (← whole i, ← whole j, ← whole k) (simp diffs (omega arith))

  row_3 : (pos 3 *ℤ i +ℤ pos 0 *ℤ j +ℤ pos 1 *ℤ k) -ℤ (pos 0 *ℤ i +ℤ pos 1 *ℤ j +ℤ pos 3 *ℤ k) ≡ pos 3 *ℤ (i -ℤ k) -ℤ (j -ℤ k)
  row_3 = rw (← whole i, ← whole j, ← whole k) (simp diffs (omega arith))

  row_4 : (pos 1 *ℤ i +ℤ pos 3 *ℤ j +ℤ pos 0 *ℤ k) -ℤ (pos 0 *ℤ i +ℤ pos 1 *ℤ j +ℤ pos 3 *ℤ k) ≡ (i -ℤ k) +ℤ pos 2 *ℤ (j -ℤ k)
  row_4 = rw (← whole i, ← whole j, ← whole k) (simp diffs (omega arith))

  row_5 : (pos 1 *ℤ i +ℤ pos 0 *ℤ j +ℤ pos 1 *ℤ k) -ℤ (pos 0 *ℤ i +ℤ pos 1 *ℤ j +ℤ pos 1 *ℤ k) ≡ (i -ℤ k) -ℤ (j -ℤ k)
  row_5 = rw (← whole i, ← whole j, ← whole k) (simp diffs (omega arith))

  row_6 : (pos 1 *ℤ i +ℤ pos 1 *ℤ j +ℤ pos 0 *ℤ k) -ℤ (pos 0 *ℤ i +ℤ pos 1 *ℤ j +ℤ pos 1 *ℤ k) ≡ i -ℤ k
  row_6 = rw (← whole i, ← whole j, ← whole k) (simp diffs (omega arith))

  row_7 : (pos 1 *ℤ i +ℤ pos 1 *ℤ j +ℤ pos 0 *ℤ k) -ℤ (pos 1 *ℤ i +ℤ pos 0 *ℤ j +ℤ pos 1 *ℤ k) ≡ j -ℤ k
  row_7 = rw (← whole i, ← whole j, ← whole k) (simp diffs (omega arith))

  row_8 : (pos 0 *ℤ i +ℤ pos 1 *ℤ j +ℤ pos 1 *ℤ k) -ℤ (pos 1 *ℤ i +ℤ pos 0 *ℤ j +ℤ pos 1 *ℤ k) ≡ (j -ℤ k) -ℤ (i -ℤ k)
  row_8 = rw (← whole i, ← whole j, ← whole k) (simp diffs (omega arith))

pub ij_down7 : (o : Bool) (t : IJK) → ij (down7 o t) ≡ down_ij o (ij t)
ij_down7 true t = ap₂ pair (row_1 t.i t.j t.k) (row_2 t.i t.j t.k)
ij_down7 false t = ap₂ pair (row_3 t.i t.j t.k) (row_4 t.i t.j t.k)

pub ij_turned : (o : Bool) (t : IJK) → ij (turned o t) ≡ turned_ij o (ij t)
ij_turned true t = ap₂ pair (row_5 t.i t.j t.k) (row_6 t.i t.j t.k)
ij_turned false t = ap₂ pair (row_7 t.i t.j t.k) (row_8 t.i t.j t.k)

-- one point, one pair
pub shift_plus : (a b m : ℤ) → (a +ℤ m) -ℤ (b +ℤ m) ≡ a -ℤ b
shift_plus a b m = rw (← whole a, ← whole b, ← whole m) (simp diffs (omega arith))

pub ij_normal : (t : IJK) → ij (normal t) ≡ ij t
ij_normal t = ap₂ pair (shift_plus t.i t.k (neg_ℤ (least t))) (shift_plus t.j t.k (neg_ℤ (least t)))

module _ (a b c a' b' c' : ℤ) (p : a -ℤ c ≡ a' -ℤ c') (q : b -ℤ c ≡ b' -ℤ c') where
  level : (z z' : ℤ) → z -ℤ c ≡ z' -ℤ c' → z -ℤ lesser a (lesser b c) ≡ z' -ℤ lesser a' (lesser b' c')
  level z z' r =
      let p' = simp diffs at (rw (← whole a, ← whole c, ← whole a', ← whole c') at p) in
      let q' = simp diffs at (rw (← whole b, ← whole c, ← whole b', ← whole c') at q) in
      let r' = simp diffs at (rw (← whole z, ← whole c, ← whole z', ← whole c') at r) in
      rw (← whole a, ← whole b, ← whole c, ← whole a', ← whole b', ← whole c', ← whole z, ← whole z') (simp diffs (omega arith))

pub triple_path : (a b c a' b' c' : ℤ) → a ≡ a' → b ≡ b' → c ≡ c' → triple a b c ≡ triple a' b' c'
triple_path a b c a' b' c' p q r = cc

pub self : (c c' : ℤ) → c -ℤ c ≡ c' -ℤ c'
self c c' = rw (← whole c, ← whole c') (simp diffs (omega arith))

pub ij_same : (s t : IJK) → ij s ≡ ij t → Same s t
ij_same s t e =
    let p : s.i -ℤ s.k ≡ t.i -ℤ t.k = ap (λ (u : IJ). u.i) e in
    let q : s.j -ℤ s.k ≡ t.j -ℤ t.k = ap (λ (u : IJ). u.j) e in
    let lev = level s.i s.j s.k t.i t.j t.k p q in
    triple_path _ _ _ _ _ _ (lev s.i t.i p) (lev s.j t.j q) (lev s.k t.k (self s.k t.k))

pub same_ij : (s t : IJK) → Same s t → ij s ≡ ij t
same_ij s t e = sym (ij_normal s) ∙ ap ij e ∙ ij_normal t

-- the point of a pair has that pair, and the point of a triple's pair is that point
pub ij_of_ij : (p : IJ) → ij (of_ij p) ≡ p
ij_of_ij p = ij_normal (triple p.i p.j (pos 0)) ∙ ap₂ pair (+ℤ_idr p.i) (+ℤ_idr p.j)

pub of_ij_ij : (t : IJK) → of_ij (ij t) ≡ normal t
of_ij_ij t = ij_same (triple (ij t).i (ij t).j (pos 0)) t (ap₂ pair (+ℤ_idr (ij t).i) (+ℤ_idr (ij t).j))
