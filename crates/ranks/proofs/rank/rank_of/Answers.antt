-- By the laws of `Ranking`.
use Rattle.std.proofs.Common.{◌-◌, ◌*◌, ◌/◌, ◌%◌, ◌^◌, refl, sym, ap, ◌∙◌, arith}
use Rattle.index.specs.Layout.{res_of}
use Rattle.index.proofs.Runs.{eights_pos}
use Rattle.descent.specs.Descendants.{pentagon}
use Rattle.descent.specs.Positions.{position_of}
use Rattle.descent.proofs.Counts.{sevens_pos}
use Rattle.ranks.proofs.Ranking.{Ranked, Word, word}
use Rattle.ranks.proofs.rank.rank_of.Goals as goal
use Rattle.ranks.proofs.rank.rank_of.Goals.{After-place, After-in_sevens-p}

pub nonzero_rem-v : goal.nonzero_rem-v
nonzero_rem-v c = omega (arith, c.place.ensures.value, eights_pos (15 - c.new_unchecked.result))

-- the word of the digits between
between : (c : After-place) → Word (pentagon c.args.c) (c.number-2.result / 2 ^ (3 * (15 - c.number-fine.result)) % c.place.result) (position_of c.args.c c.args.y)
between c =
    let fine = c.number-fine.ensures.value ∙ c.resolution.ensures in
    let own = c.number.ensures.value ∙ c.resolution-2.ensures in
    word c.args.y (res_of c.args.c) _ _ _ _ _ (omega arith) c.number-2.ensures.valid (omega arith) fine (ap pentagon (sym c.requires.owner)) (rw own at c.new_unchecked.ensures) c.place.ensures.value (rw c.number-2.ensures.value refl)

pub in_sevens-p-requires : goal.in_sevens-p-requires
in_sevens-p-requires c = omega (arith, (between c).short)

-- the position, of what is read from it
ranked : (c : After-in_sevens-p) → Ranked (pentagon c.args.c) (c.number-2.result / 2 ^ (3 * (15 - c.number-fine.result)) % c.place.result) c.in_sevens-p.result (position_of c.args.c c.args.y)
ranked c = (between c.before).ranked _ c.in_sevens-p.ensures

pub sevens-requires : goal.sevens-requires
sevens-requires c = (ranked (goal.at.sevens-requires c).After-in_sevens-p).few (sym c.is_pentagon.ensures ∙ c.if-is_pentagon.true)

pub overflow_sub-taken : goal.overflow_sub-taken
overflow_sub-taken c = rw c.sevens.ensures (sevens_pos _)

pub overflow_sub-result : goal.overflow_sub-result
overflow_sub-result c = ((ranked (goal.at.overflow_sub-result c).After-in_sevens-p).pentagon (sym c.is_pentagon.ensures ∙ c.if-is_pentagon.true) _ c.sevens.ensures).0

pub returns-then-is_pentagon : goal.returns-then-is_pentagon
returns-then-is_pentagon c = ((ranked (goal.at.returns-then-is_pentagon c).After-in_sevens-p).pentagon (sym c.is_pentagon.ensures ∙ c.if-is_pentagon.true) _ c.sevens.ensures).1

pub returns : goal.returns
returns c = (ranked (goal.at.returns c).After-in_sevens-p).hexagon (sym c.is_pentagon.ensures ∙ c.if-is_pentagon.false)
