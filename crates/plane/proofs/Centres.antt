-- Digit strings and their centres, over the length: a string with a carry has a point that no other string of its length with a carry has. Assumes nothing.
use mathlib.Core.Path.{◌≡◌, refl, sym, ap, ap₂, ◌∙◌}
use mathlib.Core.Bool.{Bool, true, false}
use mathlib.Core.Logic.{◌↔◌}
use mathlib.Core.List.{List, [], ◌∷◌}
use Prim.Native.Nat.{ℕ, suc, ◌<◌}
use native.Mathlib.Omega.{arith}
use lib.Dec.{lit<}
use lib.IntN.{ℤ, pos, ◌+ℤ◌, ◌-ℤ◌, ◌*ℤ◌}
use lib.ListN.{length}
use Rattle.plane.specs.Directions.{vec, unit}
use Rattle.plane.specs.Points.{normal, Same, pair, ij, plus, down7, up7}
use Rattle.plane.specs.Strings.{Digits, odd, centre, carried, joint}
use Rattle.plane.specs.declared.ijk.IJK.{IJK}
use Rattle.plane.specs.declared.ijk.IJ.{IJ}
use Rattle.plane.proofs.Whole.{whole, diffs}
use Rattle.plane.proofs.Pairs.{◌⊕◌, down_ij, ij_plus, ij_down7, ij_normal, ij_same, same_ij}
use Rattle.plane.proofs.Normal.{normal_same}
use Rattle.plane.proofs.Neighbours.{unit_cancel}
use Rattle.plane.proofs.Ups.{ij_under, up_down, one_way_ij}

module _ (a b c d : ℤ) where
  add_2 : pos 2 *ℤ (a +ℤ c) +ℤ (b +ℤ d) ≡ (pos 2 *ℤ a +ℤ b) +ℤ (pos 2 *ℤ c +ℤ d)
  add_2 = rw (← whole a, ← whole b, ← whole c, ← whole d) (simp diffs (omega arith))

  add_3 : pos 3 *ℤ (a +ℤ c) -ℤ (b +ℤ d) ≡ (pos 3 *ℤ a -ℤ b) +ℤ (pos 3 *ℤ c -ℤ d)
  add_3 = rw (← whole a, ← whole b, ← whole c, ← whole d) (simp diffs (omega arith))

  add_4 : (a +ℤ c) +ℤ pos 2 *ℤ (b +ℤ d) ≡ (a +ℤ pos 2 *ℤ b) +ℤ (c +ℤ pos 2 *ℤ d)
  add_4 = rw (← whole a, ← whole b, ← whole c, ← whole d) (simp diffs (omega arith))

pub down_add : (o : Bool) (p q : IJ) → down_ij o (p ⊕ q) ≡ down_ij o p ⊕ down_ij o q
down_add true p q = ap₂ pair (add_2 p.i p.j q.i q.j) (add_3 p.j p.i q.j q.i)
down_add false p q = ap₂ pair (add_3 p.i p.j q.i q.j) (add_4 p.i p.j q.i q.j)

swap_law : (a b c : ℤ) → a +ℤ b +ℤ c ≡ a +ℤ c +ℤ b
swap_law a b c = rw (← whole a, ← whole b, ← whole c) (simp diffs (omega arith))

swap : (p q r : IJ) → p ⊕ q ⊕ r ≡ p ⊕ r ⊕ q
swap p q r = ap₂ pair (swap_law p.i q.i r.i) (swap_law p.j q.j r.j)

-- one digit more
pub ij_centre : (d : ℕ) (ds : List ℕ) → ij (centre (d ∷ ds)) ≡ down_ij (odd (suc (length ds))) (ij (centre ds)) ⊕ ij (unit d)
ij_centre d ds = let o = odd (suc (length ds)) in ij_normal (plus (down7 o (centre ds)) (unit d)) ∙ ij_under o (centre ds) d

pub joint_step : (d : ℕ) (ds : List ℕ) (c : ℕ) → ij (joint (d ∷ ds) c) ≡ down_ij (odd (suc (length ds))) (ij (joint ds c)) ⊕ ij (unit d)
joint_step d ds c =
    let o = odd (suc (length ds)) in
    let s = centre ds in
    let t = carried (length ds) c in
    let u = ij (unit d) in
    ij_plus (centre (d ∷ ds)) (down7 o t)
    ∙ ap₂ ◌⊕◌ (ij_centre d ds) (ij_down7 o t)
    ∙ swap (down_ij o (ij s)) u (down_ij o (ij t))
    ∙ ap (λ (p : IJ). p ⊕ u) (sym (down_add o (ij s) (ij t)) ∙ ap (down_ij o) (sym (ij_plus s t)))

pub one_joint : (ds es : List ℕ) (c e : ℕ) → length ds ≡ length es → Digits ds → Digits es → c < 7 → e < 7 → Same (joint ds c) (joint es e) → (ds ≡ es) × (c ≡ e)
one_joint ds es c e l hd he hc hx s = by_pairs ds es l hd he (same_ij (joint ds c) (joint es e) s)
  where
    by_pairs : (ds es : List ℕ) → length ds ≡ length es → Digits ds → Digits es → ij (joint ds c) ≡ ij (joint es e) → (ds ≡ es) × (c ≡ e)
    by_pairs [] [] l hd he p = (refl, unit_cancel (ij (vec 0 0 0)) c e hc hx (sym (ij_plus (vec 0 0 0) (unit c)) ∙ p ∙ ij_plus (vec 0 0 0) (unit e)))
    by_pairs [] (y ∷ es) l hd he p = absurd (omega arith)
    by_pairs (x ∷ ds) [] l hd he p = absurd (omega arith)
    by_pairs (x ∷ ds) (y ∷ es) l hd he p =
        let l' : length ds ≡ length es = omega arith in
        let o = odd (suc (length ds)) in
        let q : down_ij o (ij (joint ds c)) ⊕ ij (unit x) ≡ down_ij o (ij (joint es e)) ⊕ ij (unit y) =
        sym (joint_step x ds c) ∙ p ∙ joint_step y es e ∙ ap (λ (n : ℕ). down_ij (odd (suc n)) (ij (joint es e)) ⊕ ij (unit y)) (sym l') in
        let s = one_way_ij o (ij (joint ds c)) (ij (joint es e)) x y hd.0 he.0 q in
        let r = by_pairs ds es l' hd.1 he.1 s.0 in
        (ap₂ ◌∷◌ s.1 r.0, r.1)

-- two strings of one length with one centre are one string
pub one_centre : (ds es : List ℕ) → length ds ≡ length es → Digits ds → Digits es → centre ds ≡ centre es → ds ≡ es
one_centre ds es l hd he p =
    (one_joint ds es 0 0 l hd he (lit< tt) (lit< tt) (ap normal (ap₂ plus p (ap (λ (n : ℕ). carried n 0) l)))).0

-- a centre is in normal form, and may be worked out in normal forms
pub centre_normal : (ds : List ℕ) → normal (centre ds) ≡ centre ds
centre_normal [] = refl
centre_normal (d ∷ ds) = normal_same (plus (down7 (odd (suc (length ds))) (centre ds)) (unit d))

pub plus_normal : (t u : IJK) → normal (plus (normal t) u) ≡ normal (plus t u)
plus_normal t u = ij_same (plus (normal t) u) (plus t u) (ij_plus (normal t) u ∙ ap (λ (p : IJ). p ⊕ ij u) (ij_normal t) ∙ sym (ij_plus t u))

-- one point stays one under down and a digit
pub same_under : (o : Bool) (s t : IJK) (d : ℕ) → Same s t → Same (plus (down7 o s) (unit d)) (plus (down7 o t) (unit d))
same_under o s t d e =
    ij_same (plus (down7 o s) (unit d)) (plus (down7 o t) (unit d))
    (ij_under o s d ∙ ap (λ (p : IJ). down_ij o p ⊕ ij (unit d)) (same_ij s t e) ∙ sym (ij_under o t d))

-- up gives the centre of the coarser string, whatever the finest digit
pub up_centre : (d : ℕ) (ds : List ℕ) (s : IJK) → d < 7 → Same s (centre (d ∷ ds)) → up7 (odd (suc (length ds))) s ≡ centre ds
up_centre d ds s h e =
    let o = odd (suc (length ds)) in
    up_down o (centre ds) d h s (e ∙ normal_same (plus (down7 o (centre ds)) (unit d))) ∙ centre_normal ds

-- reading back: a string has the point q exactly where its rest has the point `up q`, and its finest digit is what is left of q
pub read_back : (d : ℕ) (ds : List ℕ) (q : IJK) → d < 7 → let o = odd (suc (length ds)) in Same q (centre (d ∷ ds)) ↔ ((up7 o q ≡ centre ds) × Same q (plus (down7 o (up7 o q)) (unit d)))
read_back d ds q h =
    let o = odd (suc (length ds)) in
    let under : IJK → IJK = λ t. plus (down7 o t) (unit d) in (
      λ e. let u = up_centre d ds q h e in (u, e ∙ normal_same (under (centre ds)) ∙ ap (λ (t : IJK). normal (under t)) (sym u)),
      λ w. w.1 ∙ ap (λ (t : IJK). normal (under t)) w.0 ∙ sym (normal_same (under (centre ds))),
    )
