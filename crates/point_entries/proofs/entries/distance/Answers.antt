-- The first point is judged before the second; a distance is at least 0, and is cast to its size.
use Rattle.std.proofs.Common.{◌≡◌, [], ◌∷◌, sym, ap, ap₂, ◌∙◌, subst, arith, Fits, w32, w64}
use borrow.Author.Rules.{sfits_of}
use lib.Dec.{T}
use lib.IntN.{ℤ, pos, negsuc, nat_abs}
use lib.Signed.{le_z, non_neg}
use mir.Val.{SFits}
use mir.Facts.{to_z-of_z}
use Rattle.index.specs.Refusals.{answered}
use Rattle.index.proofs.Rules.{none_answered}
use Rattle.plane.specs.Points.{distance}
use Rattle.plane.proofs.Bounds.{rd}
use Rattle.plane.proofs.Distances.{distance_least}
use Rattle.plane.proofs.Signs.{size_fits}
use Rattle.entry.specs.Rules.{range_rule}
use Rattle.entry.proofs.Judges.{passed, past_judge, hit_judge, within, wider}
use Rattle.point_entries.proofs.entries.distance.Goals as goal

pub returns-in_err-at : goal.returns-in_err-at
returns-in_err-at c = hit_judge (range_rule c.args.p ∷ []) (range_rule c.args.q ∷ []) _ _ _ _ c.in_err-at.ensures c.from_residual.ensures.1

pub returns-in_err-to : goal.returns-in_err-to
returns-in_err-to c =
    hit_judge (range_rule c.args.q ∷ []) [] _ _ _ _ c.in_err-to.ensures c.from_residual-in_err-to.ensures.1 ∙ sym (past_judge _ _ _ c.in_ok-at.ensures (range_rule c.args.q ∷ []) _)

pub distance-requires : goal.distance-requires
distance-requires c = (wider _ _ (within c.args.p _ c.in_ok-at.ensures) (omega arith), wider _ _ (within c.args.q _ c.in_ok-to.ensures) (omega arith))

-- a number that is at least 0 is cast to its size
natural : (z r : ℤ) → SFits w32 r → r ≡ z → T (le_z (pos 0) z) → T (non_neg (rd r)) × Fits w64 (nat_abs (rd r))
natural z r f e h = subst (λ (y : ℤ). T (non_neg y) × Fits w64 (nat_abs y)) (sym (to_z-of_z f ∙ e)) (least z h, record { fits = size_fits z (subst (SFits w32) e f) })
  where
    least : (y : ℤ) → T (le_z (pos 0) y) → T (non_neg y)
    least (pos n) t = tt
    least (negsuc n) t = absurd t

pub overflow_cast-result : goal.overflow_cast-result
overflow_cast-result c = natural _ _ (search sfits_of) c.distance.ensures (distance_least c.in_ok-at.at c.in_ok-to.to)

pub returns : goal.returns
returns c =
    let v = passed _ _ _ c.in_ok-at.ensures in
    let w = passed _ _ _ c.in_ok-to.ensures in
    let f : SFits w32 c.distance.result = search sfits_of in
    ap answered (ap nat_abs (to_z-of_z f ∙ c.distance.ensures ∙ ap₂ distance v.0 w.0))
    ∙ sym (past_judge _ _ _ c.in_ok-at.ensures (range_rule c.args.q ∷ []) _ ∙ past_judge _ _ _ c.in_ok-to.ensures [] _ ∙ none_answered _)
