-- By the laws of `Start`.
use Rattle.std.proofs.Common.{◌≡◌, ℕ, ◌+◌, ◌*◌, ◌^◌, ◌<◌, ◌∙◌, refl, arith}
use Rattle.index.specs.Layout.{Valid}
use Rattle.descent.specs.Positions.{child_at}
use Rattle.descent.proofs.Start.{child_made}
use Rattle.ranks.proofs.rank.child_at.Goals as goal
use Rattle.ranks.proofs.rank.child_at.Goals.{After-in_eights}

-- what the numbers of the body come to
known : (c : After-in_eights) → let s : ℕ = c.first.result + c.place.result * c.in_eights.result in (s ≡ child_at c.args.d.cell c.args.d.target c.args.p) × (s < 2 ^ 60) × Valid s
known c =
    let d = c.args.d in
    let f = c.first.ensures in
    child_made d.cell d.target (omega arith) f.valid d.finer f.bound c.args.p _ c.requires (rw (c.in_eights.ensures, ← c.with_deleted-q.ensures.0, f.value, c.place.ensures.value, c.target.ensures) refl)

pub overflow_mul-place : goal.overflow_mul-place
overflow_mul-place c = omega (arith, (known c).1)

pub overflow_add-first : goal.overflow_add-first
overflow_add-first c = omega (arith, (known c).1)

pub new_unchecked-requires : goal.new_unchecked-requires
new_unchecked-requires c = (known c).2

pub returns : goal.returns
returns c = c.new_unchecked.ensures ∙ (known (goal.at.returns c).After-in_eights).0
