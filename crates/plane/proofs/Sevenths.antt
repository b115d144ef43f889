-- The nearest whole number to a seventh is the one within 3/7 of it. Assumes nothing.
use mathlib.Core.Path.{◌≡◌}
use mathlib.Core.Logic.{⊎_elim}
use Prim.Native.Nat.{suc, ◌+◌, ◌*◌, ◌/◌, ◌≤◌}
use native.Mathlib.Omega.{arith}
use lib.IntN.{ℤ, pos, negsuc, neg_ℤ, nat_abs, ◌+ℤ◌, ◌-ℤ◌, ◌*ℤ◌}
use Rattle.plane.specs.Points.{nearest}
use Rattle.plane.proofs.Whole.{pp, np, parts_same, sign, abs_parts, add_parts, neg_parts, mul_parts}

-- q is within 3/7 of n/7
abbrev pub Near : ℤ → ℤ → Type 0
Near n q = nat_abs (n -ℤ pos 7 *ℤ q) ≤ 3

-- the same as naturals
pub near_parts : (n q : ℤ) → (pp n + 7 * np q ≤ np n + 7 * pp q + 3) × (np n + 7 * pp q ≤ pp n + 7 * np q + 3) → Near n q
near_parts n q h =
    let d = n -ℤ pos 7 *ℤ q in
    ⊎_elim (λ (s : np d ≡ 0). omega (arith, abs_parts d, add_parts n (neg_ℤ (pos 7 *ℤ q)), neg_parts (pos 7 *ℤ q), mul_parts 7 q))
    (λ (s : pp d ≡ 0). omega (arith, abs_parts d, add_parts n (neg_ℤ (pos 7 *ℤ q)), neg_parts (pos 7 *ℤ q), mul_parts 7 q))
    (sign d)

pub parts_near : (n q : ℤ) → Near n q → (pp n + 7 * np q ≤ np n + 7 * pp q + 3) × (np n + 7 * pp q ≤ pp n + 7 * np q + 3)
parts_near n q h =
    let d = n -ℤ pos 7 *ℤ q in
    omega (arith, abs_parts d, add_parts n (neg_ℤ (pos 7 *ℤ q)), neg_parts (pos 7 *ℤ q), mul_parts 7 q)

pub nearest_near : (n : ℤ) → Near n (nearest n)
nearest_near (pos a) = near_parts (pos a) (pos ((a + 3) / 7)) (omega arith)
nearest_near (negsuc a) = near_parts (negsuc a) (neg_ℤ (pos ((suc a + 3) / 7))) (omega (arith, neg_parts (pos ((suc a + 3) / 7))))

pub nearest_one : (n q : ℤ) → Near n q → q ≡ nearest n
nearest_one n q h = parts_same q (nearest n) (omega (arith, parts_near n q h, parts_near n (nearest n) (nearest_near n)))

-- 7u and a little
pub nearest_little : (u e : ℤ) → nat_abs e ≤ 3 → u ≡ nearest (pos 7 *ℤ u +ℤ e)
nearest_little u e h =
    let n = pos 7 *ℤ u +ℤ e in
    nearest_one n u (near_parts n u (omega (arith, abs_parts e, add_parts (pos 7 *ℤ u) e, mul_parts 7 u)))
