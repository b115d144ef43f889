-- By the laws of `Rooms`.
use Rattle.std.proofs.Common.{◌+◌, ◌∙◌}
use Rattle.index.specs.Layout.{res_of}
use Rattle.index.specs.Refusals.{answered}
use Rattle.index.specs.Check.{cell_rules}
use Rattle.cell_entries.proofs.Rooms.{refuses, goes_on, short}
use Rattle.cell_entries.proofs.entries.list_short.Goals as goal

pub returns-in_err-cell : goal.returns-in_err-cell
returns-in_err-cell c =
    refuses (cell_rules c.args.raw) _ _ _ _ _ _ _ _ c.in_err-cell.ensures c.from_residual.ensures.1

pub returns : goal.returns
returns c =
    let n = c.new.ensures in
    goes_on c.args.raw (res_of c.args.raw + 1) _ _ _ _ _ ((λ i. answered (n.cell i, n.target i)) ∙ short c.args.raw _ _ _ c.in_ok-cell.ensures (c.number.ensures.value ∙ c.resolution.ensures) c.in_ok-t.ensures) c.fill.ensures.answer c.fill.ensures.buffer
