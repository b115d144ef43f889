-- The cursor over the descendants of a cell after k of them, by its fields. Assumes nothing.
use mathlib.Core.Path.{◌≡◌, refl, ap}
use Prim.Native.Nat.{ℕ, ◌-◌, ◌≤◌, ◌<◌, min}
use native.Mathlib.Nat.{min-eq_left, min-eq_right}
use native.Mathlib.Omega.{arith}
use Rattle.index.specs.Layout.{res_of}
use Rattle.descent.specs.Descendants.{count_of}
use Rattle.descent.specs.Positions.{child_at}
use Rattle.children.specs.Skips.{skip_of}
use Rattle.children.specs.Cursors.{cursor_after}
use Rattle.children.specs.declared.children.Cursor.{Cursor}

pub same_cursor : (c d : Cursor) → c.own ≡ d.own → c.target ≡ d.target → c.number ≡ d.number → c.skip ≡ d.skip → c.left ≡ d.left → c ≡ d
same_cursor c d p q r s l = λ i. record { own = p i; target = q i; number = r i; skip = s i; left = l i }

module _ (n t k : ℕ) (h : k < count_of n t) where
  abbrev y : ℕ
  y = child_at n t k

  least : min k (count_of n t - 1) ≡ k
  least = min-eq_left (omega arith)

  -- where a child is left the cursor stands at it
  pub cursor_at : cursor_after n t k ≡ record { own = res_of n; target = t; number = y; skip = skip_of n y; left = count_of n t - k }
  unfolding cursor_after
  cursor_at = same_cursor _ _ refl refl (ap (child_at n t) least) (ap (λ (i : ℕ). skip_of n (child_at n t i)) least) refl

module _ (n t k : ℕ) (h : count_of n t ≤ k) where
  abbrev last : ℕ
  last = child_at n t (count_of n t - 1)

  most : min k (count_of n t - 1) ≡ count_of n t - 1
  most = min-eq_right (omega arith)

  -- else at the last one
  pub cursor_end : cursor_after n t k ≡ record { own = res_of n; target = t; number = last; skip = skip_of n last; left = 0 }
  unfolding cursor_after
  cursor_end = same_cursor _ _ refl refl (ap (child_at n t) most) (ap (λ (i : ℕ). skip_of n (child_at n t i)) most) (omega arith)
