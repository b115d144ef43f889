-- By the laws of `First`.
use Rattle.std.proofs.Common.{◌≡◌, ap, ◌∙◌, arith}
use Rattle.index.specs.Layout.{digit, first_of, res_of}
use Rattle.index.proofs.First.{lead, beyond, within}
use Rattle.index.proofs.bits.first_axe.Goals as goal

pub returns-then-k-eq0 : goal.returns-then-k-eq0
unfolding first_of
returns-then-k-eq0 c = let e : res_of c.args.n ≡ 0 = omega arith in rw e

pub overflow_sub-at : goal.overflow_sub-at
overflow_sub-at c = omega (arith, lead c.args.n)

pub returns-then-k-at : goal.returns-then-k-at
returns-then-k-at c =
    c.get_direction.ensures ∙ ap (digit c.args.n) c.get_resolution-own.ensures ∙ beyond c.args.n (res_of c.args.n) (omega arith) (omega arith) (omega arith)

pub returns-else-k-at : goal.returns-else-k-at
returns-else-k-at c =
    c.get_direction-else-k-at.ensures ∙ ap (digit c.args.n) c.new_unchecked.ensures ∙ within c.args.n (res_of c.args.n) (omega arith) (omega arith) (omega arith)
