-- By the laws of `Filled`.
use Rattle.std.proofs.Common.{◌≡◌, ◌*◌, ◌^◌, ◌<◌, ◌≤◌, Bool, ℕ, List, ◌++◌, drop, arith}
use Rattle.descent.specs.Descendants.{count, count_of}
use Rattle.descent.specs.Positions.{tab, listing}
use Rattle.listing.specs.Copies.{number_at}
use Rattle.listing.proofs.Filled as filled
use Rattle.listing.proofs.blocks.list.Goals as goal
use Rattle.listing.proofs.blocks.list.Goals.{After-is_pentagon}

bounds : (c : After-is_pentagon) → (c.steps.result ≤ 15) × (c.place.result ≤ 2 ^ 45) × (c.place.result * 8 ^ c.steps.result ≤ 2 ^ 45) × (c.first.result < 2 ^ 63)
bounds c = filled.bounds _ _ (omega arith) c.first.ensures.valid c.args.d.finer c.first.ensures.bound _ _ _ _ c.first.ensures.value c.target.ensures c.place.ensures.value c.steps.ensures.value

listed : (c : After-is_pentagon) (p : Bool) → c.is_pentagon.result ≡ p → (l : List ℕ) →
    l ≡ tab (number_at c.first.result c.place.result p c.steps.result) (count p c.steps.result) ++ drop (count p c.steps.result) c.args.buf.now →
    l ≡ listing c.args.d.cell c.args.d.target ++ drop (count_of c.args.d.cell c.args.d.target) c.args.buf.now
listed c p e l =
    filled.listed _ _ (omega arith) c.first.ensures.valid c.args.d.finer c.first.ensures.bound _ _ _ _ c.first.ensures.value c.target.ensures c.place.ensures.value c.steps.ensures.value _ p _ e c.cell.ensures c.is_pentagon.ensures _ l

pub invariant_of-below : goal.invariant_of-below
invariant_of-below c = let b = bounds (goal.at.invariant_of-below c).After-is_pentagon in record { shallow = b.0; narrow = b.1; small = b.2; low = b.3 }

pub invariant_of-below-else-is_pentagon : goal.invariant_of-below-else-is_pentagon
invariant_of-below-else-is_pentagon c =
    let b = bounds (goal.at.invariant_of-below-else-is_pentagon c).After-is_pentagon in record { shallow = b.0; narrow = b.1; small = b.2; low = b.3 }

pub returns-then-is_pentagon : goal.returns-then-is_pentagon
returns-then-is_pentagon c = listed (goal.at.returns-then-is_pentagon c).After-is_pentagon _ c.if-is_pentagon.true _ c.fill_pentagon.ensures

pub returns-else-is_pentagon : goal.returns-else-is_pentagon
returns-else-is_pentagon c = listed (goal.at.returns-else-is_pentagon c).After-is_pentagon _ c.if-is_pentagon.false _ c.fill_hexagon.ensures
