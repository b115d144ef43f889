-- Where its four parts are 0, each of the seven tests fails.
use Rattle.std.proofs.Common.{◌≡◌, ℕ, ◌+◌, ◌-◌, ◌/◌, ◌%◌, ◌^◌, ◌<◌, ◌≤◌, cond, not, eqb, sym, ap, ◌∙◌, arith, le-ltb, eqb-true}
use native.Mathlib.Nat.{div-div-eq-div-mul}
use lib.Bits.{bit_or, bit_xor, bit_and, and_le_l, and_le_r, or_add_and, xor_add_and}
use Rattle.index.specs.Layout.{top_bit, mode_of, reserved_of, base_of, res_of, is_pentagonal}
use Rattle.index.specs.Refusals.{Clear}
use Rattle.index.specs.Check.{cell_rules}
use Rattle.index.specs.Words.{Each, mark, ones, low}
use Rattle.index.proofs.Rules.{clear_answered}
use Rattle.index.proofs.Leading.{highs, first_is_one}
use Rattle.index.proofs.Flags.{over, under}
use Rattle.index.proofs.raw.is_cell.Goals as goal

none_set : (a b : ℕ) → bit_or a b ≡ 0 → (a ≡ 0) × (b ≡ 0)
none_set a b e =
    let h = or_add_and a b in
    let l = and_le_l a b in
    let r = and_le_r a b in
    (omega arith, omega arith)

no_part : (a b c d : ℕ) → bit_or (bit_or (bit_or a b) c) d ≡ 0 → (a ≡ 0) × (b ≡ 0) × (c ≡ 0) × (d ≡ 0)
no_part a b c d e =
    let p = none_set (bit_or (bit_or a b) c) d e in
    let q = none_set (bit_or a b) c p.0 in
    let r = none_set a b q.0 in
    (r.0, r.1, q.1, p.1)

none_changed : (a b : ℕ) → bit_xor a b ≡ 0 → a ≡ b
none_changed a b e =
    let h = xor_add_and a b in
    let l = and_le_l a b in
    let r = and_le_r a b in
    omega arith

-- of two numbers that are not great, the one that is taken off is not the greater where the difference has no top bit
not_greater : (a b d : ℕ) → a < 2 ^ 45 → b < 2 ^ 45 → d < 2 ^ 64 → (d + b) % 2 ^ 64 ≡ a → d / 2 ^ 63 ≡ 0 → b ≤ a
not_greater a b d h g l e z = omega arith

-- the bits above the resolution, read again by fields
module _ (n : ℕ) (e : n / 2 ^ 56 ≡ 8) where
  top : top_bit n ≡ 0
  top = ap (λ (x : ℕ). x % 2) (sym (div-div-eq-div-mul n (2 ^ 56) (2 ^ 7))) ∙ ap (λ (x : ℕ). x / 2 ^ 7 % 2) e

  mode : mode_of n ≡ 1
  mode = ap (λ (x : ℕ). x % 16) (sym (div-div-eq-div-mul n (2 ^ 56) (2 ^ 3))) ∙ ap (λ (x : ℕ). x / 2 ^ 3 % 16) e

  reserved : reserved_of n ≡ 0
  reserved = ap (λ (x : ℕ). x % 8) e

cleared : (n b s u lo d : ℕ) → b ≡ base_of n → u ≡ ones (15 - res_of n) → Each mark n s → Each (λ d. cond (is_pentagonal b) (low d) 0) n lo → d < 2 ^ 64 → (d + lo) % 2 ^ 64 ≡ bit_and n 30158033218998 →
    bit_or (bit_or (bit_or (bit_xor (n / 2 ^ 56) 8) ((b + 6) / 2 ^ 7)) (bit_xor s u)) (d / 2 ^ 63) ≡ 0 → Clear (cell_rules n)
cleared n b s u lo d eb eu m w l ed z =
    let q = no_part (bit_xor (n / 2 ^ 56) 8) ((b + 6) / 2 ^ 7) (bit_xor s u) (d / 2 ^ 63) z in
    let e = none_changed (n / 2 ^ 56) 8 q.0 in
    let small : b < 122 = omega (arith, q.1) in
    let es = none_changed s u q.2 in
    let le = not_greater (bit_and n 30158033218998) lo d (highs n).short w.short l ed q.3 in
    let seven = sym (over n s m u eu) ∙ le-ltb u s (omega arith) in
    let other = sym (under n s m u eu seven) ∙ le-ltb s u (omega arith) in
    let kept = sym (first_is_one n b lo (bit_and n 30158033218998) eb w (highs n) other) ∙ le-ltb _ _ le in
    (ap (λ (x : ℕ). eqb x 1) (top n e), (ap (λ (x : ℕ). not (eqb x 1)) (mode n e), (ap (λ (x : ℕ). not (eqb x 0)) (reserved n e), (le-ltb 121 (base_of n) (omega arith), (seven, (other, (kept, tt)))))))

pub returns : goal.returns
returns c t =
    let n : ℕ = c.args.n in
    clear_answered (cell_rules n) n
    (cleared n _ _ _ _ _ c.get_base_cell-base.ensures (rw c.get_resolution.ensures at c.unused-u.ensures) c.marks-s.ensures c.low_bits.ensures c.wrapping_sub_u64-deleted.type_inv c.wrapping_sub_u64-deleted.ensures.value (eqb-true _ _ t))
