-- The count that the code chooses is the document's.
use Rattle.std.proofs.Common.{◌≡◌, ℕ, Bool, cond, ap, ◌∙◌, eqb}
use Rattle.index.specs.Layout.{res_of, first_of}
use Rattle.index.proofs.View.{first_used}
use Rattle.turns.specs.Turns.{turned_by, pentagon_turned}
use Rattle.turns.proofs.turn.pentagon_rotate60.Goals as goal

-- in the words of the calls
law : (o : Bool) (n m b f k y : ℕ) → m ≡ n → b ≡ cond o 3 5 → f ≡ first_of m (res_of m) → k ≡ cond (eqb f b) 2 1 → y ≡ turned_by o k n → y ≡ pentagon_turned o n
unfolding pentagon_turned
law o n m b f k y em eb ef ek ey = ey ∙ rw (ek, ef, eb, em, first_used n (res_of n))

pub returns : goal.returns
returns c =
    law c.args.ccw c.args.c _ _ _ _ _ c.number.ensures.value c.sel-before_one.ensures c.first_axe.ensures c.sel-count.ensures (c.rotate60.ensures ∙ ap (λ (t : Bool × ℕ). turned_by t.0 t.1 c.args.c) c.new_unchecked.ensures)
