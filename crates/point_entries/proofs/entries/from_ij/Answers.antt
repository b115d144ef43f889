-- The numbers of the pair are read back as they are.
use Rattle.std.proofs.Common.{◌≡◌, [], sym, ap, ◌∙◌, w32}
use borrow.Author.Rules.{sfits_of}
use mir.Val.{SFits}
use mir.Facts.{to_z-of_z}
use Rattle.index.specs.Refusals.{answered}
use Rattle.index.proofs.Rules.{none_answered}
use Rattle.plane.specs.Points.{pair}
use Rattle.plane.specs.declared.ijk.IJ.{IJ}
use Rattle.plane.proofs.Bounds.{rd}
use Rattle.entry.proofs.Judges.{past_judge}
use Rattle.point_entries.specs.Points.{from_ij_of}
use Rattle.point_entries.proofs.entries.from_ij.Goals as goal

read : (p : IJ) → SFits w32 p.i → SFits w32 p.j → pair (rd p.i) (rd p.j) ≡ p
read p i j = λ x. pair (to_z-of_z i x) (to_z-of_z j x)

pub returns : goal.returns
returns c =
    let p = c.args.p in
    ap answered c.of_ij.ensures ∙ sym (past_judge _ _ _ c.in_ok-locate.ensures [] _ ∙ none_answered _) ∙ ap from_ij_of (read p (search sfits_of) (search sfits_of))
