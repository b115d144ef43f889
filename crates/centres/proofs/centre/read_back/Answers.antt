-- By the loop's laws in `Reading`.
use Rattle.std.proofs.Common.{◌≡◌, ◌+◌, ◌-◌, ◌*◌, ◌^◌, ◌<◌, ◌≤◌, ℕ, Bool, true, false, Option, sym, ap, ◌∙◌, subst, arith}
use lib.Dec.{T}
use Rattle.std.specs.Bool.{then_some}
use Rattle.plane.specs.Directions.{vec, unit}
use Rattle.plane.specs.Points.{normal, Same, same, plus, down7, up7}
use Rattle.plane.specs.Strings.{odd}
use Rattle.plane.specs.declared.ijk.IJK.{IJK}
use Rattle.plane.proofs.Normal.{normal_same, same_test}
use Rattle.index.specs.Refusals.{answered, refused}
use Rattle.index.specs.Written.{Written}
use Rattle.centres.specs.Centres.{Reads, read_told}
use Rattle.centres.proofs.Reading.{Reading, sized_normal, begun, onward, read, found, none, reads_same}
use Rattle.centres.proofs.centre.read_back.Goals as goal
use Rattle.centres.proofs.centre.read_back.Goals.{After-loop-r}

-- one digit, in the words of the calls
next : (m k n r : ℕ) (p q : IJK) → k ≤ 15 → Reading m k p n r q → (o : Bool) (up : IJK) (d x at z : ℕ) → 0 < r → o ≡ odd r → up ≡ up7 o q → d < 7 → Same q (plus (down7 o up) (unit d)) → at ≡ r → x ≡ d → Written n at x z → Reading m k p z (r - 1) up
next m k n r p q hk i o up d x at z g eo eu hd s ea ex t = rw (eu, eo) (onward m k p n r q d z hk g i hd (rw (eu, eo) at s) (rw (ea, ex) at t))

-- no digit is left
last : (c : After-loop-r) → Reading c.unset-n.result c.args.length c.normalize-q.result c.loop-r.n 0 c.loop-r.q
last c = let z : c.loop-r.r ≡ 0 = omega arith in rw z at c.loop-r.invariant

told : (m k n : ℕ) (p₀ p q : IJK) → k ≤ 15 → m ≡ 2 ^ 59 + k * 2 ^ 52 + 0 * 2 ^ 45 + (2 ^ 45 - 1) → p ≡ normal p₀ → n < 2 ^ 64 → Reading m k p n 0 q →
    (t : Bool) (x : Option ℕ) (y : ℕ) → t ≡ same q (vec 0 0 0) → x ≡ then_some t y → y ≡ n → Reads k p₀ (read_told x)
told m k n p₀ p q hk em ep l i t x y et ex ey = rw ex (go t et)
  where
    point : Same p p₀
    point = ap normal ep ∙ normal_same p₀

    go : (t : Bool) → t ≡ same q (vec 0 0 0) → Reads k p₀ (read_told (then_some t y))
    go true et = rw ey (reads_same k p p₀ point (answered n) (found m k hk em p n q l i ((same_test q (vec 0 0 0)).0 (subst T et tt))))
    go false et = reads_same k p p₀ point (refused 15) (none m k p n q i (λ s. subst T (sym et) ((same_test q (vec 0 0 0)).1 s)))

pub loop-r-init : goal.loop-r-init
loop-r-init c = rw c.number-r.ensures.value (begun _ _ _ (rw c.normalize-q.ensures (sized_normal _ c.requires)))

pub loop-r-preserved : goal.loop-r-preserved
loop-r-preserved c =
    next _ _ _ _ _ _ c.number-r.ensures.bound c.loop-r.invariant
    c.is_odd-o.result _ _ _ _ _ (omega arith) c.is_odd-o.ensures c.up_aperture7-up.ensures c.value-d.ensures.below c.finest.ensures c.new_unchecked.ensures (c.new_unchecked-in-loop-r.ensures ∙ c.value-d.ensures.value) c.set_direction-n.ensures

pub new_unchecked-y-requires : goal.new_unchecked-y-requires
new_unchecked-y-requires c = (read _ _ c.number-r.ensures.bound c.unset-n.ensures _ _ _ (omega arith) (last (goal.at.new_unchecked-y-requires c).After-loop-r)).1

pub returns : goal.returns
returns c =
    told _ _ _ _ _ _ c.number-r.ensures.bound c.unset-n.ensures c.normalize-q.ensures (omega arith) (last (goal.at.returns c).After-loop-r) _ _ _ c.same_point-is_origin.ensures c.then_some.ensures c.new_unchecked-y.ensures
