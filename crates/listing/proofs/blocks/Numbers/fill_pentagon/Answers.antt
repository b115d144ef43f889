-- By the laws of `Filled`.
use Rattle.std.proofs.Common.{◌≡◌, ◌≤◌, length, true, refl, ◌∙◌, arith, length-set}
use borrow.Rule.Slice.PartMut.{same_len_mid}
use Rattle.listing.specs.Filled.{Filled}
use Rattle.listing.proofs.Filled as filled
use Rattle.listing.proofs.blocks.Numbers.fill_pentagon.Goals as goal
use Rattle.listing.proofs.blocks.Numbers.fill_pentagon.Goals.{Else-self-eq0, After-run, After-runs-2}

three : (c : After-runs-2) → 3 ≤ c.args.self.levels
three c = omega (arith, c.if-self-eq0.false, c.if-self-eq1.false, c.if-self-eq2.false)

first_90 : (c : After-runs-2) → Filled c.args.self true 90 c.args.buf.now c.runs-2.new.buf
first_90 c = filled.pentagon_90 c.args.self _ c.requires _ c.run.ensures _ _ (three c) c.runs.ensures c.runs-2.ensures

-- a run keeps the length
kept : (c : After-run) → length (filled.six c.args.self c.args.buf.now c.run.new.buf) ≡ length c.args.buf.now
kept c = same_len_mid 1 5 _ _ c.run.auto.buf ∙ length-set c.args.buf.now 0 c.args.self.first

pub returns-then-self-eq0 : goal.returns-then-self-eq0
returns-then-self-eq0 c = filled.itself c.args.self _ true refl c.if-self-eq0.true c.requires

long : (c : Else-self-eq0) → 6 ≤ length (filled.before c.args.self c.args.buf.now)
long c =
    let r = filled.room c.args.self true 1 6 (omega arith) _ (omega (arith, c.if-self-eq0.false)) c.requires in
    omega (arith, r, length-set c.args.buf.now 0 c.args.self.first)

pub slice_bounds-run-end : goal.slice_bounds-run-end
slice_bounds-run-end c = long c

pub run-requires : goal.run-requires
run-requires c = filled.run_fits c.args.self _ 1 6 _ (long (goal.at.run-requires c).Else-self-eq0) (omega arith) (omega arith)

pub returns-then-self-eq1 : goal.returns-then-self-eq1
returns-then-self-eq1 c = filled.whole c.args.self true 1 6 refl _ _ c.if-self-eq1.true (filled.pentagon_6 c.args.self _ c.requires _ c.run.ensures (omega (arith, c.if-self-eq0.false)))

pub runs-requires : goal.runs-requires
runs-requires c =
    let r = filled.asked c.args.self true 2 41 (omega arith) _ _ (kept (goal.at.runs-requires c).After-run) (omega (arith, c.if-self-eq0.false, c.if-self-eq1.false)) c.requires in
    (r.0, omega (arith, r.1))

pub returns-then-self-eq2 : goal.returns-then-self-eq2
returns-then-self-eq2 c =
    filled.whole c.args.self true 2 41 refl _ _ c.if-self-eq2.true (filled.pentagon_41 c.args.self _ c.requires _ c.run.ensures _ (omega (arith, c.if-self-eq2.true)) c.runs.ensures)

pub runs-requires-2 : goal.runs-requires-2
runs-requires-2 c =
    let p = goal.at.runs-requires-2 c in
    let r = filled.asked c.args.self true 3 90 (omega arith) _ _ (c.runs.auto.buf ∙ kept p.After-run) (omega (arith, c.if-self-eq0.false, c.if-self-eq1.false, c.if-self-eq2.false)) c.requires in
    (r.0, omega (arith, r.1))

pub grow_pentagon-requires-clause-begun : goal.grow_pentagon-requires-clause-begun
grow_pentagon-requires-clause-begun c = filled.stands c.args.self true 90 c.args.buf.now _ (first_90 (goal.at.grow_pentagon-requires-clause-begun c).After-runs-2)

pub returns : goal.returns
returns c =
    let a = (goal.at.returns c).After-runs-2 in
    filled.grown c.args.self true 3 90 (omega arith) _ _ _ (three a) (first_90 a) c.grow_pentagon.ensures
