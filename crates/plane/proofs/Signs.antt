-- The sign and the size of a 32-bit number, below zero by way of -1 - z, which fits 32 bits. Assumes nothing.
use mathlib.Core.Path.{◌≡◌}
use mathlib.Core.Bool.{true, false, true≢false}
use Prim.Native.Nat.{suc, ◌-◌, ◌^◌, ◌<◌}
use native.Mathlib.Omega.{arith}
use lib.Dec.{T}
use lib.IntN.{ℤ, pos, negsuc, nat_abs, ◌-ℤ◌}
use lib.Signed.{mag, lt_z, non_neg}
use borrow.Author.Tests.{le-ltb, ltb-true}
use mir.Syntax.{w32}
use mir.Val.{SFits}

pub minus_below : (z : ℤ) → lt_z z (pos 0) ≡ true → negsuc 0 -ℤ z ≡ pos (mag z)
minus_below (pos n) h = absurd (omega (arith, ltb-true n 0 h))
minus_below (negsuc k) h = let e : suc k - 1 ≡ k = omega arith in rw (le-ltb (suc k) 1 (omega arith), e)

pub not_below : (z : ℤ) → lt_z z (pos 0) ≡ false → T (non_neg z)
not_below (pos n) h = tt
not_below (negsuc k) h = absurd (true≢false h)

pub size_fits : (z : ℤ) → SFits w32 z → nat_abs z < 2 ^ 64
size_fits (pos n) h = omega (arith, h.sfits)
size_fits (negsuc k) h = omega (arith, h.sfits)
