-- What the contracts of functions inside the crate cite, no part of document 01: what is done to the three bits of a digit.
use Rattle.std.specs.Prelude.{cond, ◌||◌, ℕ, ◌+◌, ◌-◌, ◌*◌, ◌/◌, ◌%◌, ◌^◌, eqb}

-- the three bits of a digit moved round by k places, down
abbrev pub round : ℕ → ℕ → ℕ
round k d = d / 2 ^ k + d % 2 ^ k * 2 ^ (3 - k)

-- what changes each bit of a digit that is neither 0 nor 7
abbrev pub flip : ℕ → ℕ
flip d = cond (eqb d 0 || eqb d 7) 0 7
