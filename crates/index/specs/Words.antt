-- What the contracts of functions inside this crate and turns cite, no part of document 01: a word of fifteen digits that are changed all at once, and a
-- refusal as a number.
use Rattle.std.specs.Prelude.{◌≡◌, ℕ, zero, suc, ◌+◌, ◌*◌, ◌%◌, ◌^◌, ◌<◌, ◌≤◌, cond, if◌then◌else◌, ◌==◌, nat_eq}
use Rattle.index.specs.Layout.{digit}
use Rattle.index.specs.Refusals.{answered, refused}
use Rattle.index.specs.Check.{check_of}

-- y has fifteen digits, each of them f of the digit of x in its place
pub record Each (f : ℕ → ℕ) (x y : ℕ) : Type 0 where
  pub short : y < 2 ^ 45
  pub each : (r : ℕ) → 1 ≤ r → r ≤ 15 → digit y r ≡ f (digit x r)

-- 1 for the digit 7
abbrev pub mark : ℕ → ℕ
mark d = cond (d == 7) 1 0

-- the lowest bit of a digit
abbrev pub low : ℕ → ℕ
low d = d % 2

-- k digits that are 1
unfoldable pub ones : ℕ → ℕ
ones zero = 0
ones (suc k) = ones k * 8 + 1

-- what the check answers of n is told by k: 0 for the number itself, else the refusal
abbrev pub Numbered : ℕ → ℕ → Type 0
Numbered n k = (k ≤ 7) × (check_of n ≡ (if nat_eq k 0 then answered n else refused k))
