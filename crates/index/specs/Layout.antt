-- Document 01, 'The 64 bits': the fields by place value, the pentagon base cells, and what makes a number valid.
use Rattle.std.specs.Prelude.{◌≡◌, ℕ, zero, suc, ◌-◌, ◌*◌, ◌/◌, ◌%◌, ◌^◌, ◌<◌, ◌≤◌, Bool, true, false, cond, ◌||◌, List, [], ◌∷◌, ◌==◌, ◌≢◌}

-- bit 63
abbrev pub top_bit : ℕ → ℕ
top_bit n = n / 2 ^ 63 % 2

-- bits 59 to 62
abbrev pub mode_of : ℕ → ℕ
mode_of n = n / 2 ^ 59 % 16

-- bits 56 to 58
abbrev pub reserved_of : ℕ → ℕ
reserved_of n = n / 2 ^ 56 % 8

-- bits 52 to 55
abbrev pub res_of : ℕ → ℕ
res_of n = n / 2 ^ 52 % 16

-- bits 45 to 51
abbrev pub base_of : ℕ → ℕ
base_of n = n / 2 ^ 45 % 128

-- the digit of resolution r, 1 to 15, has its lowest bit at 3 x (15 - r)
abbrev pub digit : ℕ → ℕ → ℕ
digit n r = n / 2 ^ (3 * (15 - r)) % 8

-- the first of the digits 1 to k that is not 0, or 0 where there is none
unfoldable pub first_of : ℕ → ℕ → ℕ
first_of n zero = 0
first_of n (suc k) = cond (first_of n k == 0) (digit n (suc k)) (first_of n k)

unfoldable pub among : ℕ → List ℕ → Bool
among b [] = false
among b (x ∷ xs) = b == x || among b xs

-- the pentagon base cells
unfoldable pub is_pentagonal : ℕ → Bool
is_pentagonal b = among b (4 ∷ 14 ∷ 24 ∷ 38 ∷ 49 ∷ 58 ∷ 63 ∷ 72 ∷ 83 ∷ 97 ∷ 107 ∷ 117 ∷ [])

-- a cell: digits 1 to its resolution are 0 to 6, the others are 7, and in a pentagon base cell the first non-zero used digit is not 1
pub record Valid (n : ℕ) : Type 0 where
  pub top : top_bit n ≡ 0
  pub mode : mode_of n ≡ 1
  pub reserved : reserved_of n ≡ 0
  pub base : base_of n ≤ 121
  pub small : (r : ℕ) → 1 ≤ r → r ≤ res_of n → digit n r ≤ 6
  pub rest : (r : ℕ) → res_of n < r → r ≤ 15 → digit n r ≡ 7
  pub kept : is_pentagonal (base_of n) ≡ true → first_of n (res_of n) ≢ 1
