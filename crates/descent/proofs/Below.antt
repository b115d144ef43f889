-- The digits of a position: they are right, and together with a cell's own digits make a cell. Assumes nothing.
use mathlib.Core.Path.{◌≡◌, refl, ap, ◌∙◌}
use mathlib.Core.Bool.{Bool, true, false, ◌&&◌}
use mathlib.Core.Logic.{⊎_elim}
use mathlib.Core.List.{List, ◌++◌}
use Prim.Native.Nat.{ℕ, zero, suc, ◌+◌, ◌/◌, ◌≤◌, ◌<◌}
use native.Mathlib.Nat.{not-suc-le-zero, eq-zero-or-pos}
use native.Mathlib.Omega.{arith}
use lib.Dec.{eqb}
use lib.ListN.{length, length-append}
use borrow.Author.Tests.{ne_eqb}
use Rattle.index.specs.Layout.{is_pentagonal}
use Rattle.index.specs.View.{octal, first, Fit}
use Rattle.plane.specs.Strings.{Digits}
use Rattle.descent.specs.Descendants.{count}
use Rattle.descent.specs.Positions.{bump, below}
use Rattle.descent.proofs.Strings.{digits_append, first_append}
use Rattle.descent.proofs.Counts.{up}

pub length_below : (t : Bool) (m p : ℕ) → length (below t m p) ≡ m
unfolding below
length_below t zero p = refl
length_below t (suc m) p = ap suc (length_below t m (bump t p / 7))

pub digits_below : (t : Bool) (m p : ℕ) → Digits (below t m p)
unfolding below
digits_below t zero p = tt
digits_below t (suc m) p = (omega arith, digits_below t m (bump t p / 7))

pub octal_zero : (t : Bool) (m : ℕ) → octal (below t m 0) ≡ 0
unfolding below octal
octal_zero t zero = refl
octal_zero true (suc m) = rw (octal_zero true m)
octal_zero false (suc m) = rw (octal_zero false m)

-- under a pentagon position 0 has only zeros, and no other has 0 or 1 first
pub first_zero : (m : ℕ) → first (below true m 0) ≡ 0
unfolding below first
first_zero zero = refl
first_zero (suc m) = rw (first_zero m)

pub first_far : (m p : ℕ) → 0 < p → p < count true m → 2 ≤ first (below true m p)
unfolding below first
first_far zero p l h = omega arith
first_far (suc m) zero l h = absurd (not-suc-le-zero l)
first_far (suc m) (suc p) l h =
    ⊎_elim
    (λ (z : suc (suc p) / 7 ≡ 0). rw (z, first_zero m) (omega arith))
    (λ (g : 0 < suc (suc p) / 7). let f = first_far m (suc (suc p) / 7) g (up true m (suc p) h) in rw (ne_eqb (first (below true m (suc (suc p) / 7))) 0 (omega arith)) f)
    (eq-zero-or-pos (suc (suc p) / 7))

pub fit_child : (t : Bool) (b m p : ℕ) (ys : List ℕ) → Fit b ys → t ≡ (is_pentagonal b && eqb (first ys) 0) → m + length ys ≤ 15 → p < count t m → Fit b (below t m p ++ ys)
fit_child t b m p ys o e l h =
    record {
      base = o.base;
      short = rw (length-append, length_below t m p) l;
      digits = digits_append (below t m p) ys (digits_below t m p) o.digits;
      kept = λ q. ⊎_elim (pent q) (other q) (eq-zero-or-pos (first ys));
    }
  where
    pent : is_pentagonal b ≡ true → first ys ≡ 0 → first (below t m p ++ ys) ≡ 1 → ⊥
    pent q z f =
        let k : t ≡ true = e ∙ rw (q, z) in
        let g : first (below t m p) ≡ 1 = rw (first_append, z) at f in
        let g' : first (below true m p) ≡ 1 = rw k at g in
        let h' : p < count true m = rw k at h in
        ⊎_elim (λ (a : p ≡ 0). let w : first (below true m 0) ≡ 1 = rw a at g' in omega (arith, first_zero m)) (λ a. omega (arith, first_far m p a h')) (eq-zero-or-pos p)

    other : is_pentagonal b ≡ true → 0 < first ys → first (below t m p ++ ys) ≡ 1 → ⊥
    other q z f = o.kept q (rw (first_append, ne_eqb (first ys) 0 (omega arith)) at f)
