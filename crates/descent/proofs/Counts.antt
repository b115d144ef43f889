-- The counts: seven to one from resolution to resolution, less the deleted one under a pentagon. Assumes nothing.
use mathlib.Core.Path.{◌≡◌, refl}
use mathlib.Core.Bool.{Bool, true, false}
use Prim.Native.Nat.{ℕ, zero, suc, ◌+◌, ◌-◌, ◌*◌, ◌/◌, ◌^◌, ◌≤◌, ◌<◌}
use native.Mathlib.Nat.{pow-suc, one-le-pow, pow-le-pow_right}
use native.Mathlib.Omega.{arith}
use Rattle.descent.specs.Descendants.{count}
use Rattle.descent.specs.Positions.{bump}

-- 1 + 7 + .. , m of them
unfoldable pub ones : ℕ → ℕ
ones zero = 0
ones (suc m) = ones m * 7 + 1

pub sevens_six : (m : ℕ) → 7 ^ m ≡ 6 * ones m + 1
unfolding ones
sevens_six zero = refl
sevens_six (suc m) = omega (arith, pow-suc 7 m, sevens_six m)

pub ones_six : (m : ℕ) → (7 ^ m - 1) / 6 ≡ ones m
ones_six m = rw (sevens_six m) (omega arith)

pub count_ones : (m : ℕ) → count true m ≡ 1 + 5 * ones m
count_ones m = rw (sevens_six m) (omega arith)

pub sevens_pos : (m : ℕ) → 1 ≤ 7 ^ m
sevens_pos m = one-le-pow m 7 (omega arith)

pub count_suc : (m : ℕ) → count true (suc m) + 1 ≡ 7 * count true m
unfolding ones
count_suc m = omega (arith, count_ones m, count_ones (suc m))

pub count_pos : (t : Bool) (m : ℕ) → 1 ≤ count t m
count_pos true m = omega arith
count_pos false m = sevens_pos m

pub sevens_small : (m : ℕ) → m ≤ 15 → 7 ^ m ≤ 7 ^ 15
sevens_small m h = pow-le-pow_right (omega arith) h

pub count_small : (t : Bool) (m : ℕ) → m ≤ 15 → count t m ≤ 7 ^ 15
count_small true m h = omega (arith, sevens_pos m, sevens_small m h)
count_small false m h = sevens_small m h

-- the position one resolution up is in its own count
pub up : (t : Bool) (m p : ℕ) → p < count t (suc m) → bump t p / 7 < count t m
up true m zero h = omega arith
up true m (suc p) h = omega (arith, count_suc m)
up false m p h = let e : 7 ^ suc m ≡ 7 ^ m * 7 = pow-suc 7 m in omega arith
