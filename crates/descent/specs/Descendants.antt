-- Document 01, 'Counts and listings': how many descendants a cell has, which they are, and what a listing of them is.
use Rattle.std.specs.Prelude.{◌≡◌, Bool, true, false, ◌&&◌, List, ℕ, ◌+◌, ◌-◌, ◌*◌, ◌/◌, ◌^◌, ◌≤◌, ◌<◌, eqb, length, get_or}
use Rattle.index.specs.Layout.{res_of, base_of, digit, first_of, is_pentagonal, Valid}

-- a cell is a pentagon when its base cell is one and all used digits are 0
abbrev pub pentagon : ℕ → Bool
pentagon n = is_pentagonal (base_of n) && eqb (first_of n (res_of n)) 0

-- m resolutions down, a pentagon's count or any other cell's
abbrev pub count : Bool → ℕ → ℕ
count true m = 1 + 5 * (7 ^ m - 1) / 6
count false m = 7 ^ m

-- how many descendants the cell n has at the resolution t
abbrev pub count_of : ℕ → ℕ → ℕ
count_of n t = count (pentagon n) (t - res_of n)

-- y is a descendant of n: it has the target resolution t, the same base cell, the same leading digits, and is valid
pub record Descendant (n t y : ℕ) : Type 0 where
  pub fits : y < 2 ^ 64
  pub fine : res_of y ≡ t
  pub base : base_of y ≡ base_of n
  pub lead : (r : ℕ) → 1 ≤ r → r ≤ res_of n → digit y r ≡ digit n r
  pub valid : Valid y

-- l lists the descendants of n: ascending, these and no others
pub record Listing (n t : ℕ) (l : List ℕ) : Type 0 where
  pub ascending : (p q : ℕ) → p < q → q < length l → get_or l p 0 < get_or l q 0
  pub only : (p : ℕ) → p < length l → Descendant n t (get_or l p 0)
  pub every : (y : ℕ) → Descendant n t y → (p : ℕ) × (p < length l) × (get_or l p 0 ≡ y)
