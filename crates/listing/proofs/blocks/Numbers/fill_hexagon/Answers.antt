-- By the laws of `Filled`.
use Rattle.std.proofs.Common.{◌≤◌, length, false, refl, arith}
use Rattle.listing.specs.Filled.{Filled}
use Rattle.listing.proofs.Filled as filled
use Rattle.listing.proofs.blocks.Numbers.fill_hexagon.Goals as goal
use Rattle.listing.proofs.blocks.Numbers.fill_hexagon.Goals.{Then-self-eq1, After-runs}

two : (c : After-runs) → 2 ≤ c.args.self.levels
two c = omega (arith, c.if-self-eq0.false, c.if-self-eq1.false)

first_49 : (c : After-runs) → Filled c.args.self false 49 c.args.buf.now c.runs.new.buf
first_49 c = filled.hexagon_49 c.args.self _ c.requires _ (two c) c.runs.ensures

pub returns-then-self-eq0 : goal.returns-then-self-eq0
returns-then-self-eq0 c = filled.itself c.args.self _ false refl c.if-self-eq0.true c.requires

pub returns-then-self-eq1 : goal.returns-then-self-eq1
returns-then-self-eq1 c =
    filled.whole c.args.self false 1 7 refl _ _ c.if-self-eq1.true (filled.hexagon_7 c.args.self _ c.requires _ (omega (arith, c.if-self-eq1.true)) c.run.ensures)

long : (c : Then-self-eq1) → 7 ≤ length c.args.buf.now
long c = filled.room c.args.self false 1 7 (omega arith) _ (omega (arith, c.if-self-eq1.true)) c.requires

pub slice_bounds-run-end : goal.slice_bounds-run-end
slice_bounds-run-end c = long c

pub run-requires : goal.run-requires
run-requires c = filled.run_fits c.args.self c.args.buf.now 0 7 _ (long (goal.at.run-requires c).Then-self-eq1) (omega arith) (omega arith)

pub runs-requires : goal.runs-requires
runs-requires c =
    let r = filled.asked c.args.self false 2 49 (omega arith) _ _ refl (omega (arith, c.if-self-eq0.false, c.if-self-eq1.false)) c.requires in
    (r.0, omega (arith, r.1))

pub grow_hexagon-requires-clause-begun : goal.grow_hexagon-requires-clause-begun
grow_hexagon-requires-clause-begun c = filled.stands c.args.self false 49 c.args.buf.now _ (first_49 (goal.at.grow_hexagon-requires-clause-begun c).After-runs)

pub returns : goal.returns
returns c =
    let a = (goal.at.returns c).After-runs in
    filled.grown c.args.self false 2 49 (omega arith) _ _ _ (two a) (first_49 a) c.grow_hexagon.ensures
