-- The moves and the change of each bit make the turns.
use Rattle.turns.proofs.Wordwise.{word_turned}
use Rattle.turns.proofs.turn.turn_word.Goals as goal

pub returns : goal.returns
returns c =
    word_turned c.args.x c.args.count _ _ _ _ _ _ c.requires.0 c.requires.1 c.bits_round.ensures c.bits_round-2.ensures c.sel-moved.ensures c.sel-even.ensures c.flips.ensures c.sel.ensures
