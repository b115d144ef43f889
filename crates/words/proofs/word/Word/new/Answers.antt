use Rattle.std.proofs.Common.{refl}
use Rattle.words.proofs.word.Word.new.Goals as goal

pub returns : goal.returns
returns c =
    let e = c.new-none.ensures 16 in
    record { begun = record { wide = refl; same = rw e.long }; sign = refl; hex = e; decimal = c.new-none.ensures 10 }
