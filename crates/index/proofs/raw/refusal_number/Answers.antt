-- Seven tests, each before those after it.
use Rattle.std.proofs.Common.{◌≡◌, ℕ, ◌-◌, ◌/◌, ◌%◌, ◌^◌, ◌<◌, ◌≤◌, false, not, eqb, ltb, cond, ap, arith}
use borrow.Author.Tests.{eqb-false}
use native.Mathlib.Nat.{div-div-eq-div-mul}
use lib.Bits.{bit_and}
use Rattle.index.specs.Layout.{top_bit, mode_of, reserved_of, base_of, res_of, is_pentagonal}
use Rattle.index.specs.Refusals.{answered, refused}
use Rattle.index.specs.Check.{check_of}
use Rattle.index.specs.Words.{Each, mark, ones, low}
use Rattle.index.proofs.Rules.{numbered, none_answered}
use Rattle.index.proofs.Leading.{highs, first_is_one}
use Rattle.index.proofs.Flags.{over, under}
use Rattle.index.proofs.raw.refusal_number.Goals as goal

-- the mode with the top bit, where that is 0
mode_alone : (n : ℕ) → n < 2 ^ 64 → eqb (top_bit n) 1 ≡ false → n / 2 ^ 59 ≡ mode_of n
mode_alone n h t =
    let f = eqb-false (top_bit n) 1 t in
    let s : n / 2 ^ 59 / 16 ≡ n / 2 ^ 63 = div-div-eq-div-mul n (2 ^ 59) 16 in
    go (n / 2 ^ 59) (n / 2 ^ 63) s (small n h) f
  where
    small : (n : ℕ) → n < 2 ^ 64 → n / 2 ^ 63 < 2
    small n h = omega arith

    go : (x y : ℕ) → x / 16 ≡ y → y < 2 → (y % 2 ≡ 1 → ⊥) → x ≡ x % 16
    go x y e l f = omega arith

-- the ladder, in the words of its steps
ladder : (n base u s lo reserved top k7 k6 k5 k4 k3 k2 k : ℕ) → n < 2 ^ 64 → base ≡ base_of n → u ≡ ones (15 - res_of n) → Each mark n s → Each (λ d. cond (is_pentagonal base) (low d) 0) n lo → reserved ≡ reserved_of n → top ≡ top_bit n →
    k7 ≡ cond (ltb (bit_and n 30158033218998) lo) 7 0 → k6 ≡ cond (ltb s u) 6 k7 → k5 ≡ cond (ltb u s) 5 k6 → k4 ≡ cond (ltb 121 base) 4 k5 → k3 ≡ cond (not (eqb reserved 0)) 3 k4 → k2 ≡ cond (not (eqb (n / 2 ^ 59) 1)) 2 k3 → k ≡ cond (eqb top 1) 1 k2 →
    (k ≤ 7) × (check_of n ≡ cond (eqb k 0) (answered n) (refused k))
ladder n base u s lo reserved top k7 k6 k5 k4 k3 k2 k f eb eu m w er et e7 e6 e5 e4 e3 e2 e1 =
    numbered 7 1 _ _ _ _ _ _ (omega arith) (omega arith) e1 (ap (λ (x : ℕ). eqb x 1) et) (λ t.
    numbered 7 2 _ _ _ _ _ _ (omega arith) (omega arith) e2 (ap (λ (x : ℕ). not (eqb x 1)) (mode_alone n f t)) (λ _.
    numbered 7 3 _ _ _ _ _ _ (omega arith) (omega arith) e3 (ap (λ (x : ℕ). not (eqb x 0)) er) (λ _.
    numbered 7 4 _ _ _ _ _ _ (omega arith) (omega arith) e4 (ap (ltb 121) eb) (λ _.
    numbered 7 5 _ _ _ _ _ _ (omega arith) (omega arith) e5 (over n s m u eu) (λ h.
    numbered 7 6 _ _ _ _ _ _ (omega arith) (omega arith) e6 (under n s m u eu h) (λ g.
    numbered 7 7 _ _ _ _ _ _ (omega arith) (omega arith) e7 (first_is_one n _ _ _ eb w (highs n) g) (λ _. (omega arith, none_answered n))))))))

pub returns : goal.returns
returns c =
    ladder c.args.n c.get_base_cell-base.result c.unused-u.result c.marks-s.result c.low_bits.result c.get_reserved.result c.get_top.result
    c.sel-k7.result c.sel-k6.result c.sel-k5.result c.sel-k4.result c.sel-k3.result c.sel-k2.result c.sel.result
    c.ranges.n.fits c.get_base_cell-base.ensures (rw c.get_resolution.ensures at c.unused-u.ensures) c.marks-s.ensures c.low_bits.ensures c.get_reserved.ensures c.get_top.ensures
    c.sel-k7.ensures c.sel-k6.ensures c.sel-k5.ensures c.sel-k4.ensures c.sel-k3.ensures c.sel-k2.ensures c.sel.ensures
