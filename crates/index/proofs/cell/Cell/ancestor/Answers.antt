-- By the laws of `Cut`.
use Rattle.std.proofs.Common.{◌≡◌, ℕ, ◌+◌, ◌-◌, ◌*◌, ◌%◌, ◌^◌, sym, subst, ◌∙◌}
use Rattle.index.specs.Layout.{Valid}
use Rattle.index.specs.Ancestor.{ancestor_of}
use Rattle.index.proofs.Cut.{Steps, cut, ancestor_valid}
use Rattle.index.proofs.cell.Cell.ancestor.Goals as goal

known : (c : goal.After-number) →
    let n : ℕ = c.number-n.result in
    let u : ℕ = c.place-u.result in
    Steps n c.number.result c.number-own.result u × (n - n % u + (u - 1) - (c.number-own.result - c.number.result) * 2 ^ 52 ≡ ancestor_of c.args.self c.args.t)
known c =
    cut c.args.self c.args.t _ _ _ _ c.number-n.type_inv c.number-n.ensures.valid c.requires c.number-n.ensures.value (c.number-own.ensures.value ∙ c.get_resolution.ensures) c.place-u.ensures.value c.number.ensures.value

pub returns : goal.returns
returns c = (known c).1

pub nonzero_rem-cut : goal.nonzero_rem-cut
nonzero_rem-cut c = (known c).0.one

pub overflow_sub-filled : goal.overflow_sub-filled
overflow_sub-filled c = (known c).0.one

pub overflow_sub-result : goal.overflow_sub-result
overflow_sub-result c = (known c).0.above

pub invariant_of-result : goal.invariant_of-result
invariant_of-result c = subst Valid (sym (known c).1) (ancestor_valid c.args.self c.args.t c.number-n.ensures.valid c.requires)
