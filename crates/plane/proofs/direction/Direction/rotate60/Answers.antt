-- Each call is one more of the turns, or none where they are done.
use Rattle.std.proofs.Common.{◌≤◌, ℕ, Bool, refl, sym, subst, ap₂, ◌∙◌}
use Rattle.plane.specs.Directions.{turns}
use Rattle.plane.proofs.Turns.{unturned, turned_once_more}
use Rattle.plane.proofs.direction.Direction.rotate60.Goals as goal

pub returns : goal.returns
returns c =
    let one = turned_once_more _ _ _ 0 _ _ _ refl (unturned _ _ _) c.rotate60_where-one.ensures in
    let two = turned_once_more _ _ _ 1 _ _ _ refl one c.rotate60_where-two.ensures in
    let three = turned_once_more _ _ _ 2 _ _ _ refl two c.rotate60_where-three.ensures in
    let four = turned_once_more _ _ _ 3 _ _ _ refl three c.rotate60_where-four.ensures in
    let count = c.count-count.ensures in
    let all = (turned_once_more _ _ _ 4 _ _ _ refl four c.rotate60_where.ensures).gone (subst (λ (n : ℕ). n ≤ 5) (sym count.value) count.few) in
    all ∙ ap₂ (λ (o : Bool) (n : ℕ). turns o n c.args.self) c.is_ccw-ccw.ensures count.value
