-- A cursor that is legal stands at a child; what a call of it gives. Assumes nothing.
use mathlib.Core.Path.{◌≡◌, refl, sym, ap, ◌∙◌, subst}
use mathlib.Core.Bool.{true, false, cond, false≢true}
use Prim.Native.Nat.{ℕ, suc, ◌+◌, ◌-◌, ◌^◌, ◌≤◌, ◌<◌}
use native.Mathlib.Numerals.{add-one}
use native.Mathlib.Omega.{arith}
use lib.Dec.{eqb, leb}
use lib.IntN.{ℤ}
use borrow.Author.Tests.{eqb-true, leb-true, eq-eqb, ne_eqb}
use mir.Syntax.{w32}
use mir.Val.{SFits, to_z, of_z}
use mir.Facts.{to_z-of_z}
use Rattle.index.specs.Layout.{res_of, Valid}
use Rattle.index.specs.Refusals.{Outcome, answered, refused}
use Rattle.index.specs.Check.{cell_rules, check_of}
use Rattle.index.proofs.Rules.{answered_clear}
use Rattle.index.proofs.Validity.{clear_valid}
use Rattle.descent.specs.Descendants.{Descendant, count_of}
use Rattle.descent.specs.Positions.{child_at, position_of}
use Rattle.children.specs.Skips.{skip_of, Inner, Following}
use Rattle.children.specs.Cursors.{cursor_after, owner_of, accepted, counted, legal, next_of}
use Rattle.plane.specs.Points.{equal}
use Rattle.plane.proofs.Whole.{equal_eq}
use Rattle.std.proofs.lemmas.Float.{T_from_true}
use Rattle.children.specs.declared.children.Cursor.{Cursor}
use Rattle.children.specs.declared.children.Given.TheVariants.{Child, Done, Refused}
use Rattle.descent.proofs.Start.{child_res}
use Rattle.descent.proofs.Exact.{complete}
use Rattle.descent.proofs.Ancestors.{and_parts, ancestor_above}
use Rattle.children.proofs.Moves as moves
use Rattle.children.proofs.Moves.{skip_fits}
use Rattle.children.proofs.Stands.{same_cursor, cursor_at, cursor_end}
use Rattle.descent.proofs.Ancestors.{own_is, owner_fits, owner_valid}

-- a cursor over the descendants of n that stands at the child of position p
pub record Spot (c : Cursor) (n p : ℕ) : Type 0 where
  pub fits : n < 2 ^ 64
  pub valid : Valid n
  pub own : res_of n ≡ c.own
  pub low : res_of n ≤ c.target
  pub high : c.target ≤ 15
  pub under : p < count_of n c.target
  pub here : c.number ≡ child_at n c.target p
  pub skip : c.skip ≡ skip_of n c.number
  pub last : c.left ≡ 0 → p + 1 ≡ count_of n c.target
  pub more : (c.left ≡ 0 → ⊥) → p + c.left ≡ count_of n c.target

accepted_valid : (n : ℕ) → accepted (check_of n) ≡ true → Valid n
accepted_valid n e = go (check_of n) refl e
  where
    go : (o : Outcome ℕ) → check_of n ≡ o → accepted o ≡ true → Valid n
    go (answered m) q e = clear_valid n (answered_clear (cell_rules n) n m q)
    go (refused k) q e = absurd (false≢true e)

count_last : (l p t : ℕ) → cond (eqb l 0) (eqb (p + 1) t) (eqb (p + l) t) ≡ true → l ≡ 0 → p + 1 ≡ t
count_last l p t e z = eqb-true (p + 1) t (rw (eq-eqb l 0 z) at e)

count_more : (l p t : ℕ) → cond (eqb l 0) (eqb (p + 1) t) (eqb (p + l) t) ≡ true → (l ≡ 0 → ⊥) → p + l ≡ t
count_more l p t e z = eqb-true (p + l) t (rw (ne_eqb l 0 z) at e)

pub legal_spot : (c : Cursor) → c.number < 2 ^ 64 → legal c ≡ true → Spot c (owner_of c) (position_of (owner_of c) c.number)
legal_spot c h e =
    let a = and_parts (accepted (check_of c.number)) _ e in
    let b = and_parts (eqb (res_of c.number) c.target) _ a.1 in
    let d = and_parts (leb c.own c.target) _ b.1 in
    let g = and_parts (counted (owner_of c) c.number c.left) (equal c.skip (skip_of (owner_of c) c.number)) d.1 in
    let y : ℕ = c.number in
    let v : Valid y = accepted_valid y a.0 in
    let r : res_of y ≡ c.target = eqb-true (res_of y) c.target b.0 in
    let l : c.own ≤ res_of y = rw r (leb-true c.own c.target d.0) in
    let n : ℕ = owner_of c in
    let o : res_of n ≡ c.own = own_is y c.own h v l in
    let f = owner_fits y c.own h v l in
    let w = owner_valid y c.own h v l in
    let lo : res_of n ≤ c.target = omega (arith, o, r) in
    let hi : c.target ≤ 15 = omega (arith, r) in
    let q = complete n c.target f w lo hi y (subst (λ (t : ℕ). Descendant n t y) r (ancestor_above y c.own h v l)) in
    let t : cond (eqb c.left 0) (eqb (position_of n y + 1) (count_of n c.target)) (eqb (position_of n y + c.left) (count_of n c.target)) ≡ true =
    subst (λ (t : ℕ). cond (eqb c.left 0) (eqb (position_of n y + 1) (count_of n t)) (eqb (position_of n y + c.left) (count_of n t)) ≡ true) r g.0 in
    record {
      fits = f;
      valid = w;
      own = o;
      low = lo;
      high = hi;
      under = q.0;
      here = sym q.1;
      skip = equal_eq c.skip (skip_of n y) (T_from_true _ g.1);
      last = count_last c.left (position_of n y) (count_of n c.target) t;
      more = count_more c.left (position_of n y) (count_of n c.target) t;
    }

pub refused_call : (c : Cursor) → legal c ≡ false → Refused c ≡ next_of c
unfolding next_of
refused_call c e = rw e

pub done_call : (c : Cursor) → legal c ≡ true → c.left ≡ 0 → Done c ≡ next_of c
unfolding next_of
done_call c e z = rw (e, eq-eqb c.left 0 z)

child_call : (c : Cursor) → legal c ≡ true → (c.left ≡ 0 → ⊥) → Child c.number (cursor_after (owner_of c) c.target (position_of (owner_of c) c.number + 1)) ≡ next_of c
unfolding next_of
child_call c e z = rw (e, ne_eqb c.left 0 z)

module _ (c : Cursor) (n p : ℕ) (s : Spot c n p) where
  -- the skip, read back from its bits
  read : to_z w32 (of_z w32 c.skip) ≡ skip_of n c.number
  read = to_z-of_z (subst (SFits w32) (sym s.skip) (skip_fits n c.number)) ∙ s.skip

  -- the cursor after the last child
  pub last_cursor : c.left ≡ 1 →
      ◌≡◌ {A = Cursor} (record { own = c.own; target = c.target; number = c.number; skip = to_z w32 (of_z w32 c.skip); left = 0 }) (cursor_after n c.target (p + 1))
  last_cursor e =
      let t : ℕ = c.target in
      let m : p + c.left ≡ count_of n t = s.more (λ z. omega arith) in
      let k : count_of n t - 1 ≡ p = omega arith in
      let y : child_at n t (count_of n t - 1) ≡ c.number = ap (child_at n t) k ∙ sym s.here in
      same_cursor _ _ (sym s.own) refl (sym y) (read ∙ ap (skip_of n) (sym y)) refl
      ∙ sym (cursor_end n t (p + 1) (omega arith))

  module _ (h : 2 ≤ c.left) where
    further : suc p < count_of n c.target
    further = let m = s.more (λ z. omega arith) in omega arith

    pub asked : Inner c.number c.skip c.own × (c.target ≡ res_of c.number)
    asked =
        let i = moves.inner_child n c.target s.fits s.valid s.low s.high p further in
        let j : Inner c.number (skip_of n c.number) (res_of n) = subst (λ (y : ℕ). Inner y (skip_of n y) (res_of n)) (sym s.here) i in (
          subst (λ (z : ℤ). Inner c.number z c.own) (sym s.skip) (subst (λ (o : ℕ). Inner c.number (skip_of n c.number) o) s.own j),
          sym (ap res_of s.here ∙ child_res n c.target s.fits s.valid s.low s.high p s.under),
        )

    -- the cursor after another one
    pub more_cursor : (y : ℕ) (k : ℤ) → Following c.number c.own y k →
        ◌≡◌ {A = Cursor} (record { own = c.own; target = c.target; number = y; skip = to_z w32 (of_z w32 k); left = c.left - 1 }) (cursor_after n c.target (p + 1))
    more_cursor y k a =
        let t : ℕ = c.target in
        let m = s.more (λ z. omega arith) in
        let b : Following (child_at n t p) (res_of n) y k = subst (λ (x : ℕ). Following x (res_of n) y k) s.here (subst (λ (o : ℕ). Following c.number o y k) (sym s.own) a) in
        let w = moves.following_child n t s.fits s.valid s.low s.high p further y k b in
        let g : to_z w32 (of_z w32 k) ≡ skip_of n (child_at n t (suc p)) = to_z-of_z (subst (SFits w32) (sym w.1) (skip_fits n (child_at n t (suc p)))) ∙ w.1 in
        same_cursor _ _ (sym s.own) refl w.0 g (omega arith)
        ∙ sym (cursor_at n t (suc p) further) ∙ ap (cursor_after n t) (sym (add-one p))

pub child_given : (c d : Cursor) → legal c ≡ true → (c.left ≡ 0 → ⊥) → d ≡ cursor_after (owner_of c) c.target (position_of (owner_of c) c.number + 1) → Child c.number d ≡ next_of c
child_given c d e z q = ap (Child c.number) q ∙ child_call c e z
