-- The centre of a cell digit by digit, and how large the points on the way are. Assumes nothing.
use mathlib.Core.Path.{◌≡◌, sym, ap, ◌∙◌, subst}
use mathlib.Core.Bool.{Bool}
use Prim.Native.Nat.{ℕ, zero, suc, ◌-◌, ◌*◌, ◌≤◌}
use native.Mathlib.Omega.{arith}
use Rattle.plane.specs.Directions.{unit}
use Rattle.plane.specs.Points.{normal, plus, down7}
use Rattle.plane.specs.Ranges.{Within}
use Rattle.plane.specs.Strings.{odd, centre}
use Rattle.plane.specs.declared.ijk.IJK.{IJK}
use Rattle.plane.proofs.Centres.{plus_normal}
use Rattle.plane.proofs.Sizes.{Box, box_normal, box_down, size, size_small, box_centre, box_within}
use Rattle.index.specs.Layout.{digit, res_of}
use Rattle.index.specs.View.{used}
use Rattle.centres.specs.Centres.{centre_of}
use Rattle.index.proofs.Runs.{length_used}
use Rattle.index.proofs.View.{small_used}

pub within_more : (m n : ℕ) (t : IJK) → m ≤ n → Within m t → Within n t
within_more m n t h w = record { i = omega arith; j = omega arith; k = omega arith }

-- the loop: p is the centre of the digits before r
module _ (n r : ℕ) (p : IJK) (g : 1 ≤ r) (hr : r ≤ 15) (small : (s : ℕ) → 1 ≤ s → s ≤ r → digit n s ≤ 6) (e : p ≡ centre (used n (r - 1))) where
  box : Box (size (r - 1)) p
  box = rw e (subst (λ (m : ℕ). Box (size m) (centre (used n (r - 1)))) (length_used n (r - 1)) (box_centre (used n (r - 1)) (small_used n (r - 1) (λ s h l. small s h (omega arith)))))

  pub point_within : Within 250000000 p
  point_within = within_more (size (r - 1)) 250000000 p (omega (arith, size_small (r - 1) (omega arith))) (box_within (size (r - 1)) p box)

  pub down_within : (o : Bool) (q : IJK) → q ≡ normal (down7 o p) → Within 999999999 q
  down_within o q eq =
      rw eq
      (within_more (4 * size (r - 1)) 999999999 (normal (down7 o p)) (omega (arith, size_small (r - 1) (omega arith))) (box_within (4 * size (r - 1)) (normal (down7 o p)) (box_normal (4 * size (r - 1)) (down7 o p) (box_down o (size (r - 1)) p box))))

pub next_centre : (n r : ℕ) (p q s : IJK) (o : Bool) (d : ℕ) → 1 ≤ r → p ≡ centre (used n (r - 1)) → o ≡ odd r → d ≡ digit n r → q ≡ normal (down7 o p) → s ≡ normal (plus q (unit d)) → s ≡ centre (used n r)
unfolding used
next_centre n zero p q s o d g ep eo ed eq es = absurd (omega arith)
next_centre n (suc r) p q s o d g ep eo ed eq es =
    let m : suc r - 1 ≡ r = omega arith in
    let t = rw m at ep in
    rw (es, eq, t, eo, ed) (plus_normal (down7 (odd (suc r)) (centre (used n r))) (unit (digit n (suc r))) ∙ ap (λ (m : ℕ). normal (plus (down7 (odd (suc m)) (centre (used n r))) (unit (digit n (suc r))))) (sym (length_used n r)))

pub all_read : (n r : ℕ) (p : IJK) → r ≡ res_of n → p ≡ centre (used n r) → p ≡ centre_of n
unfolding centre_of
all_read n r p er e = rw (e, er)
