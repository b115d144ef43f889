-- Of the entries of the centre and of the step: two cells of one resolution with one centre have the same used digits; what the step answers is the
-- centre moved by the direction. Assumes nothing.
use mathlib.Core.Path.{◌≡◌, sym, ◌∙◌}
use mathlib.Core.Logic.{◌↔◌}
use Prim.Native.Nat.{ℕ, ◌^◌, ◌≤◌, ◌<◌}
use native.Mathlib.Omega.{arith}
use Rattle.index.specs.Layout.{res_of, Valid}
use Rattle.index.specs.View.{used}
use Rattle.index.specs.Refusals.{answered}
use Rattle.index.specs.Check.{cell_rules}
use Rattle.index.proofs.Rules.{answered_same, answered_clear}
use Rattle.index.proofs.Runs.{length_used}
use Rattle.index.proofs.Validity.{clear_valid}
use Rattle.index.proofs.View.{fit}
use Rattle.plane.specs.Strings.{Digits, centre}
use Rattle.plane.specs.declared.ijk.IJK.{IJK}
use Rattle.plane.proofs.Centres.{one_centre}
use Rattle.centres.specs.Centres as centres
use Rattle.grid.specs.Steps.{inside, leaves}
use Rattle.step_entries.specs.Steps.{centre_of, step_of}
use Rattle.hexagons.proofs.Onwards.{step_answered, step_onward}
use Rattle.hexagons.proofs.StepMeant.{InsideMeant, inside_meant, LeavesMeant, leaves_meant}

-- the digits of a cell whose centre is answered, and the centre of them
centred : (n : ℕ) (p : IJK) → centre_of n ≡ answered p → Digits (used n (res_of n)) × (centre (used n (res_of n)) ≡ p)
unfolding centres.centre_of
centred n p e = (
  (fit n (clear_valid n (answered_clear (cell_rules n) (centres.centre_of n) p e))).digits,
  answered_same (cell_rules n) (centres.centre_of n) p e,
)

pub same_centre : (n m : ℕ) (p : IJK) → centre_of n ≡ answered p → centre_of m ≡ answered p → res_of n ≡ res_of m → used n (res_of n) ≡ used m (res_of m)
same_centre n m p a b r =
    let c = centred n p a in
    let d = centred m p b in
    one_centre (used n (res_of n)) (used m (res_of m)) (length_used n (res_of n) ∙ r ∙ sym (length_used m (res_of m))) c.0 d.0 (c.1 ∙ sym d.1)

-- no equivalence: a pentagon in direction 1 has such a y, and is refused by 17
pub stepped_inside : (n way m t : ℕ) → n < 2 ^ 64 → step_of n way ≡ answered (inside m t) → InsideMeant n way m t
stepped_inside n way m t h e = let s = step_answered n way (inside m t) e in inside_meant n way h s.valid (omega (arith, s.high)) m t s.step

pub stepped_out : (n way d : ℕ) → n < 2 ^ 64 → (step_of n way ≡ answered (leaves d)) ↔ (Valid n × (1 ≤ way) × (way ≤ 6) × LeavesMeant n way d)
stepped_out n way d h = (
  λ e. let s = step_answered n way (leaves d) e in (s.valid, s.low, s.high, (leaves_meant n way h s.valid (omega (arith, s.high)) d).0 s.step),
  λ a. step_onward n way a.0 a.1 a.2 ∙ (leaves_meant n way h a.0 (omega (arith, a.2)) d).1 a.3,
)
