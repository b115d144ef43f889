-- By the loop's laws in `Centres`.
use Rattle.std.proofs.Common.{◌≡◌, ◌+◌, ◌-◌, ◌≤◌, ℕ, refl, ◌∙◌, arith}
use Rattle.plane.specs.Strings.{centre}
use Rattle.index.specs.Layout.{digit}
use Rattle.index.specs.View.{used}
use Rattle.centres.proofs.Centres.{point_within, down_within, next_centre, all_read}
use Rattle.centres.proofs.centre.centre.Goals as goal
use Rattle.centres.proofs.centre.centre.Goals.{After-is_odd-o, After-neighbor-p}

small : (c : After-is_odd-o) → (s : ℕ) → 1 ≤ s → s ≤ c.loop-r.r → digit c.args.c s ≤ 6
small c s g l = c.number-n.ensures.valid.small s g (omega arith)

next : (c : After-neighbor-p) → c.neighbor-p.result ≡ centre (used c.args.c c.loop-r.r)
next c =
    next_centre _ _ c.loop-r.p _ _ _ _ (omega arith) c.loop-r.invariant.is c.is_odd-o.ensures (c.new_unchecked-in-loop-r.ensures ∙ c.get_direction-d.ensures ∙ rw (c.new_unchecked.ensures, c.number-n.ensures.value)) c.down_aperture7-q.ensures c.neighbor-p.ensures

pub loop-r-init : goal.loop-r-init
unfolding used
loop-r-init c = record { place = omega arith; is = refl }

pub down_aperture7-q-requires : goal.down_aperture7-q-requires
down_aperture7-q-requires c = point_within c.args.c c.loop-r.r c.loop-r.p (omega arith) (omega arith) (small c) c.loop-r.invariant.is

pub neighbor-p-requires : goal.neighbor-p-requires
neighbor-p-requires c =
    down_within c.args.c c.loop-r.r c.loop-r.p (omega arith) (omega arith) (small (goal.at.neighbor-p-requires c).After-is_odd-o) c.loop-r.invariant.is _ _ c.down_aperture7-q.ensures

pub loop-r-preserved : goal.loop-r-preserved
loop-r-preserved c =
    let e : c.loop-r.r + 1 - 1 ≡ c.loop-r.r = omega arith in
    record { place = omega arith; is = rw e (next (goal.at.loop-r-preserved c).After-neighbor-p) }

pub returns : goal.returns
returns c = all_read c.args.c (c.loop-r.r - 1) _ (omega arith) c.loop-r.invariant.is

pub returns-2 : goal.returns-2
returns-2 c = all_read c.args.c c.loop-r.r _ (omega arith) (next (goal.at.returns-2 c).After-neighbor-p)
