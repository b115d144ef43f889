-- Document 01, 'Counts and listings': child at position and position of child, counted from 0 in the listing's order.
use Rattle.std.specs.Prelude.{Bool, true, false, not, ◌&&◌, List, [], ◌∷◌, ◌++◌, ℕ, zero, suc, ◌+◌, ◌-◌, ◌*◌, ◌/◌, ◌%◌, eqb, leb}
use Rattle.index.specs.Layout.{res_of, base_of, digit}
use Rattle.index.specs.View.{used, pack}
use Rattle.index.specs.Refusals.{◌when◌, Outcome, judged}
use Rattle.index.specs.Ancestor.{ancestor_of}
use Rattle.descent.specs.Descendants.{pentagon, count_of}

-- a position as if the digit 1 were not deleted at the finest place: under a pentagon one more, but for 0
abbrev pub bump : Bool → ℕ → ℕ
bump true zero = zero
bump true (suc p) = suc (suc p)
bump false p = p

-- the m digits below a cell, the finest first, of its child at position p
unfoldable pub below : Bool → ℕ → ℕ → List ℕ
below t zero p = []
below t (suc m) p = bump t p % 7 ∷ below t m (bump t p / 7)

unfoldable pub child_at : ℕ → ℕ → ℕ → ℕ
child_at n t p = pack (base_of n) (below (pentagon n) (t - res_of n) p ++ used n (res_of n))

-- the first k values of f
unfoldable pub tab : (ℕ → ℕ) → ℕ → List ℕ
tab f zero = []
tab f (suc k) = tab f k ++ (f k ∷ [])

unfoldable pub listing : ℕ → ℕ → List ℕ
listing n t = tab (child_at n t) (count_of n t)

-- the other way round
abbrev pub unbump : Bool → ℕ → ℕ
unbump true zero = zero
unbump true (suc v) = v
unbump false v = v

unfoldable pub rank : Bool → List ℕ → ℕ
rank t [] = 0
rank t (d ∷ ds) = unbump t (rank t ds * 7 + d)

-- the digits k + 1 to k + m of y, the finest first
unfoldable pub seg : ℕ → ℕ → ℕ → List ℕ
seg y k zero = []
seg y k (suc m) = digit y (k + m + 1) ∷ seg y k m

abbrev pub position_of : ℕ → ℕ → ℕ
position_of n y = rank (pentagon n) (seg y (res_of n) (res_of y - res_of n))

-- the cell y is a descendant of the cell n: n is its ancestor
abbrev pub under : ℕ → ℕ → Bool
under n y = leb (res_of n) (res_of y) && eqb (ancestor_of y (res_of n)) n

abbrev pub found_of : ℕ → ℕ → Outcome ℕ
found_of n y = judged ((12 when not (under n y)) ∷ []) (position_of n y)
