-- Document 01, 'The 64 bits': a number whose digits are written. What contracts of our own crates cite.
use Rattle.std.specs.Prelude.{◌≡◌, ℕ, ◌/◌, ◌^◌, ◌<◌, ◌≤◌, List, ◌≢◌}
use Rattle.index.specs.Layout.{digit, res_of}
use Rattle.index.specs.View.{used}

-- the digit of resolution r is d; the other digits and the bits above the digits stay
pub record Written (n r d y : ℕ) : Type 0 where
  pub upper : y / 2 ^ 45 ≡ n / 2 ^ 45
  pub there : digit y r ≡ d
  pub other : (s : ℕ) → 1 ≤ s → s ≤ 15 → (s ≢ r) → digit y s ≡ digit n s

-- the used digits are ds; the others and the bits above the digits stay
pub record WithDigits (n : ℕ) (ds : List ℕ) (y : ℕ) : Type 0 where
  pub upper : y / 2 ^ 45 ≡ n / 2 ^ 45
  pub digits : used y (res_of n) ≡ ds
  pub rest : (s : ℕ) → res_of n < s → s ≤ 15 → digit y s ≡ digit n s
