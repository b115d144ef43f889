-- By the laws of `Rounds`: what the rounds made is the next child.
use Rattle.std.proofs.Common.{◌*◌, ◌^◌, ◌≤◌, arith, inl, inr}
use borrow.Author.Rules.{sfits_of}
use Rattle.children.proofs.Rounds as rounds
use Rattle.children.proofs.Rounds.{Elsewhere, Round}
use Rattle.children.proofs.children.Cursor.advance.Goals as goal
use Rattle.children.proofs.children.Cursor.advance.Goals.{After-place-one, After-get_direction-d, Joined-else-d-eq1, else-d-eq1-via-then-d-eq1+else-self-r, else-d-eq1-via-else-d-eq1, else-loop-r-test, then-loop-r-test+else-d-eq1+else-d-lt7+else-r-start-r}

pub loop-r-init : goal.loop-r-init
loop-r-init c = rounds.start c.args.self (omega arith) (search sfits_of) c.requires

small : (c : After-place-one) → c.place-one.result * 8 ≤ 2 ^ 45
small c =
    rounds.unit_small c.args.self (omega arith) (search sfits_of) c.requires _ _ c.loop-r.invariant (omega arith) _ _ c.new_unchecked-at.ensures c.place-one.ensures.value

round : (c : After-get_direction-d) → Round c.args.self.number c.args.self.skip c.args.self.own c.args.self.target c.loop-r.bits c.loop-r.r c.place-one.result c.get_direction-d.result
round c =
    rounds.round c.args.self (omega arith) (search sfits_of) c.requires _ _ c.loop-r.invariant (omega arith) _ _ c.new_unchecked-at.ensures c.place-one.ensures.value
    _ c.get_direction-d.ensures

pub overflow_add-bits : goal.overflow_add-bits
overflow_add-bits c = omega (arith, c.loop-r.invariant.fits, small c)

pub overflow_add-result : goal.overflow_add-result
overflow_add-result c = omega (arith, c.loop-r.invariant.fits, small (goal.at.overflow_add-result c).After-place-one)

pub returns-then-self-r : goal.returns-then-self-r
returns-then-self-r c = (round (goal.at.returns-then-self-r c).After-get_direction-d).hop c.if-d-eq1.true c.if-self-r.true

past : (c : Joined-else-d-eq1) → Elsewhere c.args.self.skip c.loop-r.r c.get_direction-d.result
past c = elim c.else-d-eq1.branch [ else-d-eq1-via-then-d-eq1+else-self-r w ↦ inr w.if-self-r.false | else-d-eq1-via-else-d-eq1 w ↦ inl w.if-d-eq1.false ]

pub returns-then-d-lt7 : goal.returns-then-d-lt7
returns-then-d-lt7 c = let p = goal.at.returns-then-d-lt7 c in (round p.After-get_direction-d).hit (past p.Joined-else-d-eq1) c.if-d-lt7.true

pub overflow_mul-bits : goal.overflow_mul-bits
overflow_mul-bits c = omega (arith, small (goal.at.overflow_mul-bits c).After-place-one)

pub overflow_sub-bits : goal.overflow_sub-bits
overflow_sub-bits c = let p = goal.at.overflow_sub-bits c in (round p.After-get_direction-d).enough (past p.Joined-else-d-eq1) c.if-d-lt7.false

pub loop-r-preserved : goal.loop-r-preserved
loop-r-preserved c = let p = goal.at.loop-r-preserved c in (round p.After-get_direction-d).again (past p.Joined-else-d-eq1) c.if-d-lt7.false

pub returns : goal.returns
returns c =
    elim c.loop-r-test.branch [
      | else-loop-r-test w ↦ rounds.finish c.args.self (omega arith) (search sfits_of) c.requires _ _ c.loop-r.invariant _ w.bits-is (omega (arith, w.loop-r-test.false))
      | then-loop-r-test+else-d-eq1+else-d-lt7+else-r-start-r w ↦
          let q : Elsewhere c.args.self.skip c.loop-r.r w.get_direction-d.result = elim w.else-d-eq1.branch [ else-d-eq1-via-then-d-eq1+else-self-r v ↦ inr v.if-self-r.false | else-d-eq1-via-else-d-eq1 v ↦ inl v.if-d-eq1.false ] in
          let r = rounds.round c.args.self (omega arith) (search sfits_of) c.requires _ _ c.loop-r.invariant (omega arith) _ _ w.new_unchecked-at.ensures w.place-one.ensures.value _ w.get_direction-d.ensures in
          rounds.finish c.args.self (omega arith) (search sfits_of) c.requires _ _ (r.again q w.if-d-lt7.false) _ w.bits-is (omega arith)
    ]
