-- The bit operations digit by digit: each law is over the place of a digit, for all fifteen at once. Assumes nothing.
use Rattle.std.proofs.Common.{◌≡◌, ℕ, ◌-◌, ◌*◌, ◌/◌, ◌%◌, ◌^◌, ◌≤◌, Bool, true, false, cond, T, eqb, sym, ap, ◌∙◌, mod-lt, add_comm, arith, shr-shr}
use lib.Bits.{bit_and, bit_or, bit_xor, and_shr, and_mod, or_shr, or_mod, xor_shr, xor_mod}
use Rattle.plane.proofs.Every.{every, at_eq}
use Rattle.index.specs.Layout.{digit}

-- a digit of an operation is the operation of the digits
pub and8 : (a b p : ℕ) → bit_and a b / 2 ^ p % 8 ≡ bit_and (a / 2 ^ p % 8) (b / 2 ^ p % 8)
and8 a b p = rw (and_shr a b p) (and_mod (a / 2 ^ p) (b / 2 ^ p) 3)

pub or8 : (a b p : ℕ) → bit_or a b / 2 ^ p % 8 ≡ bit_or (a / 2 ^ p % 8) (b / 2 ^ p % 8)
or8 a b p = rw (or_shr a b p) (or_mod (a / 2 ^ p) (b / 2 ^ p) 3)

pub xor8 : (a b p : ℕ) → bit_xor a b / 2 ^ p % 8 ≡ bit_xor (a / 2 ^ p % 8) (b / 2 ^ p % 8)
xor8 a b p = rw (xor_shr a b p) (xor_mod (a / 2 ^ p) (b / 2 ^ p) 3)

-- two shifts in either order
pub shr_swap : (a j p : ℕ) → a / 2 ^ j / 2 ^ p ≡ a / 2 ^ p / 2 ^ j
shr_swap a j p = shr-shr a j p ∙ ap (λ (k : ℕ). a / 2 ^ k) (add_comm j p) ∙ sym (shr-shr a p j)

-- a word that has v as each of its digits
pub mask_at : (m v : ℕ) → T (every 15 (λ k. eqb (m / 2 ^ (3 * k) % 8) v)) → (r : ℕ) → 1 ≤ r → r ≤ 15 → digit m r ≡ v
mask_at m v t r l u = at_eq 15 (λ (k : ℕ). m / 2 ^ (3 * k) % 8) (λ k. v) t (15 - r) (omega arith)

-- a test of a digit with the two bits above it: 32 cases
cut0 : (y : ℕ) → y % 8 ≡ y % 32 % 8
cut0 y = omega arith

cut1 : (y : ℕ) → y / 2 % 8 ≡ y % 32 / 2 % 8
cut1 y = omega arith

cut2 : (y : ℕ) → y / 4 % 8 ≡ y % 32 / 4 % 8
cut2 y = omega arith

pub window : (f : ℕ → ℕ → ℕ → ℕ) (g : ℕ → ℕ) → T (every 32 (λ i. eqb (f (i % 8) (i / 2 % 8) (i / 4 % 8)) (g (i % 8)))) → (y : ℕ) → f (y % 8) (y / 2 % 8) (y / 4 % 8) ≡ g (y % 8)
window f g t y =
    rw (cut0 y, cut1 y, cut2 y) (at_eq 32 (λ (i : ℕ). f (i % 8) (i / 2 % 8) (i / 4 % 8)) (λ (i : ℕ). g (i % 8)) t (y % 32) (mod-lt y (omega arith)))

-- the one or the other of two numbers
pub chosen_le : (t : Bool) (a b r m : ℕ) → r ≡ cond t a b → a ≤ m → b ≤ m → r ≤ m
chosen_le true a b r m e h g = rw e h
chosen_le false a b r m e h g = rw e g
