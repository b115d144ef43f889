-- The word of the digits is turned, and put back below the bits above it.
use Rattle.std.proofs.Common.{◌-◌, ◌∙◌, cond, ap₂, ℕ, Bool}
use Rattle.turns.proofs.Wordwise.{sense, placed}
use Rattle.turns.proofs.turn.turn_digits.Goals as goal

pub returns : goal.returns
returns c =
    let by = c.args.by in
    let count = c.count-k.ensures in
    let turned = c.sel.ensures ∙ ap₂ (λ (o : Bool) (k : ℕ). cond o k (6 - k)) c.is_ccw.ensures count.value in
    placed by.0 by.1 c.args.n _ count.few c.requires (sense by.0 by.1 _ _ _ count.few turned c.turn_word.ensures)
