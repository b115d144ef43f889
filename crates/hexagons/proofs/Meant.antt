-- When the last refusal of an entry is given, in the words of document 01's table: 11 of a cursor, 12, 15, 16 and 17. Those before it are given by their
-- tests alone, in order (index/proofs/Rules). And every point answered is in normal form. Assumes nothing.
use mathlib.Core.Path.{◌≡◌, refl, sym, ap, ◌∙◌, subst}
use mathlib.Core.Bool.{Bool, true, false, not, cond, ◌||◌, true≢false}
use mathlib.Core.Logic.{⊎_elim, ◌↔◌}
use mathlib.Core.List.{List, [], ◌∷◌, ◌++◌}
use Prim.Native.Nat.{ℕ, ◌^◌, ◌≤◌, ◌<◌}
use native.Mathlib.Omega.{arith}
use lib.Dec.{eqb, ltb}
use lib.IntN.{pos}
use lib.Signed.{le_z}
use Rattle.std.proofs.Common.{Some, None}
use borrow.Author.Tests.{ltb-false, le-ltb, eqb-false, not-true, not-false}
use Rattle.index.specs.Layout.{Valid, res_of}
use Rattle.index.specs.Refusals.{Rule, ◌when◌, Outcome, answered, refused, judged, Met}
use Rattle.index.specs.View.{used}
use Rattle.index.specs.Check.{cell_rules}
use Rattle.index.proofs.Rules.{refused_inj, never, refused_met, answered_same, answered_clear, clear_answered, clear_parts, cleared, hit, Others, later, joined}
use Rattle.index.proofs.Some.{both_off}
use Rattle.index.proofs.Validity.{clear_valid, valid_clear}
use Rattle.plane.specs.Directions.{unit}
use Rattle.plane.specs.Points.{normal, largest, value, Same, direction_of}
use Rattle.plane.specs.Ranges.{point_in_range}
use Rattle.plane.specs.declared.ijk.IJK.{IJK}
use Rattle.plane.proofs.Normal.{normal_same}
use Rattle.plane.proofs.Units.{unit_normal, apart, not_unit}
use Rattle.plane.proofs.Centres.{centre_normal}
use Rattle.descent.specs.Descendants.{Descendant}
use Rattle.descent.specs.Positions as positions
use Rattle.descent.proofs.Ancestors.{under_descendant, descendant_under}
use Rattle.children.specs.Cursors.{next_of, Made}
use Rattle.children.specs.declared.children.Cursor.{Cursor}
use Rattle.children.specs.declared.children.Given.{Given}
use Rattle.children.proofs.Reach.{unmade_refused, made_given}
use Rattle.centres.specs.Centres.{StringOf, Reads}
use Rattle.centres.specs.Centres as centres
use Rattle.grid.specs.Steps as steps
use Rattle.grid.proofs.Inside.{Pentagon, deleted_way}
use Rattle.entry.specs.Rules.{resolution_rule, way_rule, range_rule, onward_rule}
use Rattle.cell_entries.specs.Cells.{given_told, position_of}
use Rattle.point_entries.specs.Points.{unit_of, direction_of_point, unit_rule}
use Rattle.step_entries.specs.Steps.{ReadsBack, Under, onward_rules, after, step_of}
use Rattle.step_entries.specs.Steps as entries

-- the rules of a cell have the numbers 1 to 7
others : (n k : ℕ) → 7 < k → Others k (cell_rules n)
others n k h = (λ e. omega arith, (λ e. omega arith, (λ e. omega arith, (λ e. omega arith, (λ e. omega arith, (λ e. omega arith, (λ e. omega arith, tt)))))))

unchild : (g : Given) → given_told g ≡ refused 11 → (d : Cursor) × (g ≡ Given.Refused d)
unchild (Given.Child y d) e = absurd (never e)
unchild (Given.Done d) e = absurd (never e)
unchild (Given.Refused d) e = (d, refl)

pub given_11 : (c : Cursor) → c.number < 2 ^ 64 → (given_told (next_of c) ≡ refused 11) ↔ (Made c → ⊥)
given_11 c h = (λ e m. let g = unchild (next_of c) e in made_given c g.0 m g.1, λ none. ap given_told (unmade_refused c h none))

pub given_12 : (n y : ℕ) → n < 2 ^ 64 → y < 2 ^ 64 → (position_of n y ≡ refused 12) ↔ (Valid n × Valid y × (Descendant n (res_of y) y → ⊥))
given_12 n y hn hy = (there, back)
  where
    there : position_of n y ≡ refused 12 → Valid n × Valid y × (Descendant n (res_of y) y → ⊥)
    there e =
        let a = later 12 (cell_rules n) (cell_rules y ++ ((12 when not (positions.under n y)) ∷ [])) (others n 12 (omega arith)) (refused_met (cell_rules n ++ (cell_rules y ++ ((12 when not (positions.under n y)) ∷ []))) (positions.position_of n y) 12 e) in
        let b = later 12 (cell_rules y) ((12 when not (positions.under n y)) ∷ []) (others y 12 (omega arith)) a.1 in
        let v = clear_valid n a.0 in (
          v,
          clear_valid y b.0,
          λ d. ⊎_elim (λ q. true≢false (sym (descendant_under n (res_of y) y hn v d) ∙ not-true (positions.under n y) q.0)) (λ q. q.1) b.1,
        )

    outside : (Descendant n (res_of y) y → ⊥) → Valid y → (t : Bool) → positions.under n y ≡ t → not t ≡ true
    outside none v true e = absurd (none (under_descendant n y hy v e))
    outside none v false e = refl

    back : Valid n × Valid y × (Descendant n (res_of y) y → ⊥) → position_of n y ≡ refused 12
    back p =
        cleared (cell_rules n) (cell_rules y ++ ((12 when not (positions.under n y)) ∷ [])) (positions.position_of n y) (valid_clear n p.0)
        ∙ cleared (cell_rules y) ((12 when not (positions.under n y)) ∷ []) (positions.position_of n y) (valid_clear y p.1)
        ∙ hit 12 (not (positions.under n y)) [] (positions.position_of n y) (outside p.2 p.1 (positions.under n y) refl)

pub given_15 : (r : ℕ) (p : IJK) → ReadsBack r p (refused 15) ↔ ((r ≤ 15) × (point_in_range p ≡ true) × ((ds : List ℕ) → StringOf r p ds → ⊥))
given_15 r p = (λ e. there (judged (resolution_rule r ∷ range_rule p ∷ []) tt) refl e, back)
  where
    there : (o : Outcome (Unit {0})) → judged (resolution_rule r ∷ range_rule p ∷ []) tt ≡ o → Under o (Reads r p) (refused 15) → (r ≤ 15) × (point_in_range p ≡ true) × ((ds : List ℕ) → StringOf r p ds → ⊥)
    there (answered u) q e =
        let c = answered_clear (resolution_rule r ∷ range_rule p ∷ []) tt u q in
        (ltb-false 15 r c.0, not-false (point_in_range p) c.1.0, e.1)
    there (refused k) q e = absurd (unlike (refused_met (resolution_rule r ∷ range_rule p ∷ []) tt 15 (q ∙ ap refused (sym (refused_inj e)))))
      where
        unlike : Met 15 (resolution_rule r ∷ range_rule p ∷ []) → ⊥
        unlike m = (later 15 (resolution_rule r ∷ range_rule p ∷ []) [] (λ x. omega arith, (λ x. omega arith, tt)) m).1

    back : (r ≤ 15) × (point_in_range p ≡ true) × ((ds : List ℕ) → StringOf r p ds → ⊥) → ReadsBack r p (refused 15)
    back q =
        subst (λ (o : Outcome (Unit {0})). Under o (Reads r p) (refused 15))
        (sym (clear_answered (resolution_rule r ∷ range_rule p ∷ []) tt (le-ltb 15 r q.0, (ap not q.1, tt))))
        (refl, q.2)

pub given_16 : (t : IJK) → (direction_of_point t ≡ refused 16) ↔ ((point_in_range t ≡ true) × ((d : ℕ) → d < 7 → Same t (unit d) → ⊥))
given_16 t = (there, back)
  where
    there : direction_of_point t ≡ refused 16 → (point_in_range t ≡ true) × ((d : ℕ) → d < 7 → Same t (unit d) → ⊥)
    there e =
        let a = later 16 (range_rule t ∷ []) (unit_rule t ∷ []) (λ x. omega arith, tt) (refused_met (range_rule t ∷ unit_rule t ∷ []) (value (normal t)) 16 e) in
        (not-false (point_in_range t) a.0.0, ⊎_elim (λ q. (not_unit t).0 (ap (λ (b : Bool). cond b (Some (value (normal t))) None) (not-true (le_z (largest (normal t)) (pos 1)) q.0))) (λ q. absurd q.1) a.1)

    far : (b : Bool) → le_z (largest (normal t)) (pos 1) ≡ b → direction_of t ≡ None → not b ≡ true
    far true e w = absurd (apart (direction_of t) (value (normal t)) (ap (λ (b : Bool). cond b (Some (value (normal t))) None) e) w)
    far false e w = refl

    back : (point_in_range t ≡ true) × ((d : ℕ) → d < 7 → Same t (unit d) → ⊥) → direction_of_point t ≡ refused 16
    back p =
        cleared (range_rule t ∷ []) (unit_rule t ∷ []) (value (normal t)) (ap not p.0, tt)
        ∙ hit 16 (not (le_z (largest (normal t)) (pos 1))) [] (value (normal t)) (far (le_z (largest (normal t)) (pos 1)) refl ((not_unit t).1 p.1))

pub given_17 : (n way : ℕ) → (step_of n way ≡ refused 17) ↔ (Valid n × Pentagon n × (way ≡ 1))
given_17 n way = (λ e. there (judged (onward_rules n way) tt) refl e, back)
  where
    there : (o : Outcome (Unit {0})) → judged (onward_rules n way) tt ≡ o → after o (steps.step_of n way) ≡ refused 17 → Valid n × Pentagon n × (way ≡ 1)
    there (answered u) q e =
        let c = clear_parts (cell_rules n) (onward_rule way ∷ []) (answered_clear (onward_rules n way) tt u q) in
        let v = clear_valid n c.0 in
        let w = both_off (eqb way 0) (ltb 6 way) c.1.0 in
        let d = (deleted_way n way v (low (eqb-false way 0 w.0)) (omega (arith, ltb-false 6 way w.1))).0 e in
        (v, d.0, d.1)
      where
        low : (way ≡ 0 → ⊥) → 1 ≤ way
        low x = omega arith
    there (refused k) q e = absurd (unlike (refused_met (onward_rules n way) tt 17 (q ∙ ap refused (refused_inj e))))
      where
        unlike : Met 17 (onward_rules n way) → ⊥
        unlike m = (later 17 (onward_rule way ∷ []) [] (λ x. omega arith, tt) (later 17 (cell_rules n) (onward_rule way ∷ []) (others n 17 (omega arith)) m).1).1

    back : Valid n × Pentagon n × (way ≡ 1) → step_of n way ≡ refused 17
    back p =
        let w : way ≡ 1 = p.2 in
        ap (λ (o : Outcome (Unit {0})). after o (steps.step_of n way)) (clear_answered (onward_rules n way) tt (joined (cell_rules n) (onward_rule way ∷ []) (valid_clear n p.0) (ap (λ (x : ℕ). eqb x 0 || ltb 6 x) w, tt)))
        ∙ (deleted_way n way p.0 (omega arith) (omega arith)).1 (p.1, p.2)

-- every point answered is in normal form: where the answer is the normal form of something, as normalise, neighbour, from_ij and the images have it, and
-- where it is a unit vector or a centre
pub normal_answered : (rules : List Rule) (t p : IJK) → judged rules (normal t) ≡ answered p → normal p ≡ p
normal_answered rules t p e = subst (λ (x : IJK). normal x ≡ x) (answered_same rules (normal t) p e) (normal_same t)

pub unit_answered : (d : ℕ) (p : IJK) → unit_of d ≡ answered p → normal p ≡ p
unit_answered d p e =
    let c = answered_clear (way_rule d ∷ []) (unit d) p e in
    subst (λ (x : IJK). normal x ≡ x) (answered_same (way_rule d ∷ []) (unit d) p e) (unit_normal d (omega (arith, ltb-false 6 d c.0)))

pub centre_answered : (n : ℕ) (p : IJK) → entries.centre_of n ≡ answered p → normal p ≡ p
unfolding centres.centre_of
centre_answered n p e = subst (λ (x : IJK). normal x ≡ x) (answered_same (cell_rules n) (centres.centre_of n) p e) (centre_normal (used n (res_of n)))
