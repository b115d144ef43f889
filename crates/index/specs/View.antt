-- Document 01, 'The 64 bits', read the other way: a cell is a base cell and a string of digits. A string has its finest digit first,
-- so that every recursion takes the finest digit off.
use Rattle.std.specs.Prelude.{◌≡◌, ℕ, zero, suc, ◌+◌, ◌-◌, ◌*◌, ◌^◌, ◌≤◌, true, cond, List, [], ◌∷◌, length, ◌==◌, ◌≢◌}
use Rattle.plane.specs.Strings.{Digits}
use Rattle.index.specs.Layout.{digit, is_pentagonal}

-- the digits 1 to k of n
unfoldable pub used : ℕ → ℕ → List ℕ
used n zero = []
used n (suc k) = digit n (suc k) ∷ used n k

-- the digits as a number with eight as its base
unfoldable pub octal : List ℕ → ℕ
octal [] = 0
octal (d ∷ ds) = octal ds * 8 + d

-- mode 1, the resolution, the base cell, the digits, and 7 in each place below them
unfoldable pub pack : ℕ → List ℕ → ℕ
pack b ds = 2 ^ 59 + length ds * 2 ^ 52 + b * 2 ^ 45 + (octal ds * 8 ^ (15 - length ds) + (8 ^ (15 - length ds) - 1))

-- the coarsest digit that is not 0, or 0 where there is none
unfoldable pub first : List ℕ → ℕ
first [] = 0
first (d ∷ ds) = cond (first ds == 0) d (first ds)

-- what makes a base cell and a string of digits a cell
pub record Fit (b : ℕ) (ds : List ℕ) : Type 0 where
  pub base : b ≤ 121
  pub short : length ds ≤ 15
  pub digits : Digits ds
  pub kept : is_pentagonal b ≡ true → first ds ≢ 1
