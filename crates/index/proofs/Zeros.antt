-- A valid number's digit bits are 0 and then all ones exactly where its used digits are 0. Assumes nothing.
use Rattle.std.proofs.Common.{◌≡◌, ℕ, zero, suc, ◌+◌, ◌-◌, ◌*◌, ◌/◌, ◌%◌, ◌^◌, ◌<◌, ◌≤◌, eqb, ap, ◌∙◌, ⊎_elim, mul-le-mul_right, eq-zero-or-pos, zero-add, arith, eq-eqb, ne_eqb}
use Rattle.plane.proofs.Every.{at_eq}
use Rattle.index.specs.Layout.{digit, first_of, res_of, Valid}
use Rattle.index.proofs.Runs.{run, run_zero, run_suc, sevens, eights_pos}
use Rattle.index.proofs.View.{low_split}

-- the first digit is 0 where the run of the digits is
first_run : (n k : ℕ) → k ≤ 15 → eqb (first_of n k) 0 ≡ eqb (run n 0 k) 0
unfolding first_of
first_run n zero h = rw (run_zero n 0)
first_run n (suc k) h =
    let e : run n 0 (suc k) ≡ run n 0 k * 8 + digit n (suc k) = rw zero-add at (run_suc n 0 k (omega arith)) in
    let ih = first_run n k (omega arith) in
    rw (ih, e)
    (⊎_elim
    (λ (z : run n 0 k ≡ 0). let y : 0 * 8 + digit n (suc k) ≡ digit n (suc k) = omega arith in rw (z, y))
    (λ (l : 0 < run n 0 k). rw (ne_eqb (run n 0 k) 0 (omega arith), ih, ne_eqb (run n 0 k) 0 (omega arith), ne_eqb (run n 0 k * 8 + digit n (suc k)) 0 (omega arith)))
    (eq-zero-or-pos (run n 0 k)))

all_ones : (r : ℕ) → r ≤ 15 → 35184372088831 / 2 ^ (3 * r) ≡ 8 ^ (15 - r) - 1
all_ones r h = at_eq 16 (λ (k : ℕ). 35184372088831 / 2 ^ (3 * k)) (λ (k : ℕ). 8 ^ (15 - k) - 1) tt r (omega arith)

zero_eq : (y s x : ℕ) → 1 ≤ s → x ≡ y * s + (s - 1) → eqb x (s - 1) ≡ eqb y 0
zero_eq y s x p e =
    ⊎_elim (λ (z : y ≡ 0). let w : x ≡ 0 * s + (s - 1) = rw z at e in rw (z, eq-eqb x (s - 1) (omega arith)))
    (λ (l : 0 < y). let k : 1 * s ≤ y * s = mul-le-mul_right s l in rw (ne_eqb y 0 (omega arith), ne_eqb x (s - 1) (omega arith)))
    (eq-zero-or-pos y)

on_valid : (n r : ℕ) → Valid n → r ≡ res_of n → eqb (n % 2 ^ 45) (35184372088831 / 2 ^ (3 * r)) ≡ eqb (first_of n (res_of n)) 0
on_valid n r v e =
    let l : res_of n ≤ 15 = omega arith in
    let o = sevens n (res_of n) (15 - res_of n) (omega arith) (λ j g h. v.rest j g (omega arith)) in
    let s : n % 2 ^ 45 ≡ run n 0 (res_of n) * 8 ^ (15 - res_of n) + (8 ^ (15 - res_of n) - 1) = low_split n (res_of n) l ∙ ap (λ (x : ℕ). run n 0 (res_of n) * 8 ^ (15 - res_of n) + x) o in
    rw (e, all_ones (res_of n) l, first_run n (res_of n) l) (zero_eq _ _ _ (eights_pos (15 - res_of n)) s)

-- the same where the number is that of a cell
pub all_zero : (c n r : ℕ) → n ≡ c → Valid c → r ≡ res_of n → eqb (n % 2 ^ 45) (35184372088831 / 2 ^ (3 * r)) ≡ eqb (first_of c (res_of c)) 0
all_zero c n r e v er = on_valid n r (rw e v) er ∙ ap (λ (x : ℕ). eqb (first_of x (res_of x)) 0) e
