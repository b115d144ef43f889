-- Document 01, 'Counts and listings': the Rust skips the K digit by `skip_count`, starting at the target resolution and falling by one
-- per skip; -1 for other cells. And how `advance` goes from a child to the next.
use Rattle.std.specs.Prelude.{◌≡◌, cond, List, [], ◌∷◌, ℕ, suc, ◌+◌, ◌≤◌, ◌<◌, eqb, ℤ, pos, negsuc, length}
use Rattle.index.specs.Layout.{res_of, Valid}
use Rattle.index.specs.View.{used, first}
use Rattle.index.specs.Ancestor.{ancestor_of}
use Rattle.descent.specs.Descendants.{pentagon, count_of}
use Rattle.descent.specs.Positions.{child_at, position_of}

-- how many digits come before the first that is not 0
unfoldable pub lead : List ℕ → ℕ
lead [] = 0
lead (d ∷ ds) = cond (eqb (first (d ∷ ds)) 0) (suc (length ds)) (lead ds)

-- the skip that goes with the child y of n: the resolution whose digit 1 is skipped next
abbrev pub skip_of : ℕ → ℕ → ℤ
skip_of n y = cond (pentagon n) (pos (lead (used y (res_of y)))) (negsuc 0)

-- the cell y, with the skip z, is below its ancestor at `own`, and not its last child
pub record Inner (y : ℕ) (z : ℤ) (own : ℕ) : Type 0 where
  pub valid : Valid y
  pub low : own ≤ res_of y
  pub more : position_of (ancestor_of y own) y + 1 < count_of (ancestor_of y own) (res_of y)
  pub skip : z ≡ skip_of (ancestor_of y own) y

-- x, with the skip s, is the child after y
pub record Following (y own x : ℕ) (s : ℤ) : Type 0 where
  pub number : x ≡ child_at (ancestor_of y own) (res_of y) (position_of (ancestor_of y own) y + 1)
  pub skip : s ≡ skip_of (ancestor_of y own) x
