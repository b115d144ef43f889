-- By the loop's laws in `Walks`, in the words of the calls.
use Rattle.std.proofs.Common.{◌≡◌, ℕ, ◌-◌, ◌^◌, ◌<◌, ◌≤◌, Bool, ◌⊎◌, inl, inr, ⊎_elim, ap, ap₂, ◌∙◌, subst, arith}
use Rattle.plane.specs.Strings.{odd}
use Rattle.index.specs.Layout.{digit, res_of, Valid}
use Rattle.index.specs.Written.{Written}
use Rattle.walks.specs.Tables.{new_digit, adjustment}
use Rattle.walks.specs.Walks.{walked_of, carry_of}
use Rattle.walks.proofs.Walks.{Walking, onward, ended, stopped, walk_ends}
use Rattle.walks.proofs.algo.walk.Goals as goal
use Rattle.walks.proofs.algo.walk.Goals.{else-loop-r-test, then-loop-r-test+then-value-eq0}

-- one turn of the loop: at is the place, old the digit there
next : (m way n r c at old : ℕ) (o : Bool) (new a z : ℕ) → Valid m → Walking m (res_of m) way n r c → 0 < r → at ≡ r → old ≡ digit n at → o ≡ odd r → new ≡ new_digit o old c → a ≡ adjustment o old c → Written n at new z →
    Walking m (res_of m) way z (r - 1) a
next m way n r c at old o new a z v i p ea ed eo en ej w =
    let e = ed ∙ ap (digit n) ea in
    let there : new ≡ new_digit (odd r) (digit n r) c = en ∙ ap₂ (λ (x : Bool) (y : ℕ). new_digit x y c) eo e in
    let on : adjustment (odd r) (digit n r) c ≡ a = rw (ej, eo, e) in
    subst (Walking m (res_of m) way z (r - 1)) on (onward m (res_of m) way (omega arith) v.small n r c z p i (rw (← there, ← ea) w))

-- the loop is left at the last digit, or at the direction 0
done : (m way n r c : ℕ) → n < 2 ^ 64 → Valid m → Walking m (res_of m) way n r c → (r ≤ 0) ⊎ (c ≡ 0) → (n ≡ walked_of m way) × (c ≡ carry_of m way)
done m way n r c l v i o =
    walk_ends m way n r c l v i (⊎_elim (λ (z : r ≤ 0). ended m (res_of m) way (omega arith) v.small n r c (omega arith) i) (λ (z : c ≡ 0). stopped m (res_of m) way (omega arith) v.small n r c z i) o)

pub loop-r-preserved : goal.loop-r-preserved
loop-r-preserved c =
    let l = c.loop-r in
    next _ _ _ _ _ _ _ _ _ _ _ c.number-n.ensures.valid l.invariant (omega arith) c.new_unchecked-at.ensures (c.new_unchecked-old.ensures ∙ c.get_direction.ensures) c.is_odd-o.ensures c.new_digit.ensures c.adjustment-way.ensures c.set_direction-n.ensures

pub returns : goal.returns
returns c =
    let l = c.loop-r in
    done c.args.c c.args.d l.n l.r l.way (omega arith) c.number-n.ensures.valid l.invariant
    (elim c.loop-r-test.branch [ else-loop-r-test w ↦ inl (omega arith) | then-loop-r-test+then-value-eq0 w ↦ inr (omega arith) ])
