-- The judging of a cursor, in the words of its calls. Assumes nothing.
use mathlib.Core.Path.{◌≡◌, refl, sym, ap, ◌∙◌}
use mathlib.Core.Bool.{Bool, true, false, cond}
use mathlib.Core.Logic.{◌⊎◌, inl, inr}
use Prim.Native.Nat.{ℕ, zero, suc, ◌+◌, ◌-◌, ◌^◌, ◌≤◌, ◌<◌, max}
use native.Mathlib.Omega.{arith}
use lib.Dec.{eqb}
use Rattle.std.proofs.Math.Dec.{eqb-suc-zero}
use lib.IntN.{ℤ, pos, negsuc}
use borrow.Author.Tests.{eq-eqb, ne_eqb, le-leb, lt-leb}
use mir.Syntax.{w32}
use mir.Val.{SFits, of_z}
use Rattle.index.specs.Layout.{res_of, Valid}
use Rattle.index.specs.View.{used}
use Rattle.index.specs.Ancestor.{ancestor_of}
use Rattle.index.specs.Check.{check_of}
use Rattle.index.proofs.Validity.{valid_accepted}
use Rattle.descent.specs.Descendants.{pentagon, count_of}
use Rattle.descent.specs.Positions.{position_of}
use Rattle.children.specs.Skips.{lead, skip_of}
use Rattle.children.specs.Cursors.{owner_of, accepted, counted, placed, legal}
use Rattle.plane.proofs.Bounds.{equal_bits}
use Rattle.plane.specs.Points.{equal}
use Rattle.children.specs.declared.children.Cursor.{Cursor}
use Rattle.descent.proofs.Ancestors.{own_is, among_children}
use Rattle.children.proofs.Moves.{skip_fits}

counts : (l p t m : ℕ) → p < t → m ≡ max l 1 → t - p ≡ m → cond (eqb l 0) (eqb (p + 1) t) (eqb (p + l) t) ≡ true
counts zero p t m h e q = eq-eqb (p + 1) t (omega arith)
counts (suc l) p t m h e q = rw (eqb-suc-zero l) (eq-eqb (p + suc l) t (omega arith))

uncounted : (l p t m : ℕ) → m ≡ max l 1 → (t - p ≡ m → ⊥) → cond (eqb l 0) (eqb (p + 1) t) (eqb (p + l) t) ≡ false
uncounted zero p t m e q = ne_eqb (p + 1) t (λ g. q (omega arith))
uncounted (suc l) p t m e q = rw (eqb-suc-zero l) (ne_eqb (p + suc l) t (λ g. q (omega arith)))

-- a cursor by its owner, and by the total and the position p of its number, which has the resolution `fine`
pub record Judged (c : Cursor) (y fine owner total p : ℕ) : Type 0 where
  pub under : p < total
  pub not_counted : (m : ℕ) → m ≡ max c.left 1 → (total - p ≡ m → ⊥) → eqb (total - p) m ≡ legal c
  pub all_counted : (m : ℕ) → m ≡ max c.left 1 → total - p ≡ m → (z : ℕ) (k : ℤ) → SFits w32 c.skip → z ≡ lead (used y fine) → k ≡ cond (pentagon owner) (pos z) (negsuc 0) → eqb (of_z w32 c.skip) (of_z w32 k) ≡ legal c

-- a cursor by its owner, whose resolution is not finer than `fine`
pub record Owned (c : Cursor) (y fine owner : ℕ) : Type 0 where
  pub low : res_of owner ≤ fine
  pub above : (res_of owner ≤ res_of y) × (ancestor_of y (res_of owner) ≡ owner)
  pub judged : (total p : ℕ) → total ≡ count_of owner fine → p ≡ position_of owner y → Judged c y fine owner total p

-- what `is_legal` reads
module _ (c : Cursor) (y target fine : ℕ) (h64 : c.number < 2 ^ 64) (v : Valid c.number) (ey : y ≡ c.number) (et : target ≡ fine) (ef : fine ≡ res_of y) where
  yes_cell : accepted (check_of c.number) ≡ true
  yes_cell = rw (valid_accepted c.number v)

  target_is : target ≡ res_of c.number
  target_is = et ∙ ef ∙ ap res_of ey

  other_target : (target ≡ c.target → ⊥) → false ≡ legal c
  other_target h = rw (yes_cell, ne_eqb (res_of c.number) c.target (λ e. h (target_is ∙ e)))

  module _ (h : target ≡ c.target) where
    same_target : eqb (res_of c.number) c.target ≡ true
    same_target = eq-eqb (res_of c.number) c.target (sym target_is ∙ h)

    too_coarse : target < c.own → false ≡ legal c
    too_coarse g = rw (yes_cell, same_target, lt-leb c.own c.target (omega arith))

    module _ (l : c.own ≤ target) (coarse owner : ℕ) (ec : coarse ≡ c.own) (eo : owner ≡ ancestor_of y coarse) where
      abbrev n : ℕ
      n = owner_of c

      low : c.own ≤ res_of c.number
      low = rw (← target_is) l

      owner_is : owner ≡ n
      owner_is = eo ∙ rw (ey, ec) refl

      own_is' : res_of owner ≡ coarse
      own_is' = ap res_of owner_is ∙ own_is c.number c.own h64 v low ∙ sym ec

      owner_low : res_of owner ≤ fine
      owner_low = omega (arith, own_is')

      owner_above : (res_of owner ≤ res_of y) × (ancestor_of y (res_of owner) ≡ owner)
      owner_above = (omega (arith, own_is'), rw own_is' (sym eo))

      module _ (total p : ℕ) (eq : total ≡ count_of owner fine) (er : p ≡ position_of owner y) where
        total_is : total ≡ count_of n (res_of c.number)
        total_is = eq ∙ rw (owner_is, ef, ey) refl

        p_is : p ≡ position_of n c.number
        p_is = er ∙ rw (owner_is, ey) refl

        among : position_of n c.number < count_of n (res_of c.number)
        among = (among_children c.number c.own h64 v low).0

        under : p < total
        under = rw (p_is, total_is) among

        placed_legal : (b : Bool) → placed n c.number c.left c.skip ≡ b → legal c ≡ b
        placed_legal b q = rw (yes_cell, same_target, le-leb c.own c.target (omega arith), q) refl

        module _ (m : ℕ) (em : m ≡ max c.left 1) where
          not_counted : (total - p ≡ m → ⊥) → eqb (total - p) m ≡ legal c
          not_counted g =
              let u : counted n c.number c.left ≡ false = rw (← p_is, ← total_is) (uncounted c.left p total m em g) in
              ne_eqb (total - p) m g ∙ sym (placed_legal false (rw u refl))

          all_counted : total - p ≡ m → (z : ℕ) (k : ℤ) → SFits w32 c.skip → z ≡ lead (used y fine) → k ≡ cond (pentagon owner) (pos z) (negsuc 0) → eqb (of_z w32 c.skip) (of_z w32 k) ≡ legal c
          all_counted g z k fs ez ek =
              let u : counted n c.number c.left ≡ true = rw (← p_is, ← total_is) (counts c.left p total m under em g) in
              let q : k ≡ skip_of n c.number = ek ∙ rw (owner_is, ez, ef, ey) refl in
              rw q (equal_bits c.skip (skip_of n c.number) fs (skip_fits n c.number)) ∙ sym (placed_legal (equal c.skip (skip_of n c.number)) (rw u refl))

        judged : Judged c y fine owner total p
        judged = record { under = under; not_counted = not_counted; all_counted = all_counted }

      pub owned : Owned c y fine owner
      owned = record { low = owner_low; above = owner_above; judged = judged }

  pub unfit : (target ≡ c.target → ⊥) ⊎ ((target ≡ c.target) × (target < c.own)) → false ≡ legal c
  unfit (inl h) = other_target h
  unfit (inr g) = too_coarse g.0 g.1
