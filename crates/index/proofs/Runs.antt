-- Runs of digits by place value: the digits r + 1 to r + i as one number with eight as its base. Assumes nothing.
use Rattle.std.proofs.Common.{◌≡◌, ℕ, zero, suc, ◌+◌, ◌-◌, ◌*◌, ◌/◌, ◌%◌, ◌^◌, ◌<◌, ◌≤◌, length, sym, refl, ap, ◌∙◌, ⊎_elim, mod-lt, eq-or-lt_of_le, pow-suc, zero-add, mul-suc, arith, pow-add}
use native.Mathlib.Nat.{mod-one, div-div-eq-div-mul, one-le-pow}
use lib.Arith.{mod-mul}
use Rattle.index.specs.Layout.{digit}
use Rattle.index.specs.View.{used, octal}

pub place_suc : (k : ℕ) → 2 ^ (3 * suc k) ≡ 2 ^ (3 * k) * 8
place_suc k = rw mul-suc (pow-add 2 (3 * k) 3)

pub place : (k : ℕ) → 2 ^ (3 * k) ≡ 8 ^ k
place zero = refl
place (suc k) = place_suc k ∙ ap (λ (x : ℕ). x * 8) (place k) ∙ sym (pow-suc 8 k)

pub eights_pos : (k : ℕ) → 1 ≤ 8 ^ k
eights_pos k = one-le-pow k 8 (omega arith)

unfoldable pub run : ℕ → ℕ → ℕ → ℕ
run n r i = n / 2 ^ (3 * (15 - (r + i))) % 8 ^ i

pub run_zero : (n r : ℕ) → run n r 0 ≡ 0
unfolding run
run_zero n r = mod-one _

pub run_suc : (n r i : ℕ) → r + suc i ≤ 15 → run n r (suc i) ≡ run n r i * 8 + digit n (r + suc i)
unfolding run
run_suc n r i h =
    let v : ℕ = 15 - (r + suc i) in
    let e : 15 - (r + i) ≡ suc v = omega arith in
    let s : n / 2 ^ (3 * v) / 8 ≡ n / 2 ^ (3 * (15 - (r + i))) = rw (e, place_suc) (div-div-eq-div-mul n (2 ^ (3 * v)) 8) in
    rw (pow-suc, ← s) (mod-mul (n / 2 ^ (3 * v)) (eights_pos i) (omega arith))

-- the used digits as a number
pub octal_used : (n k : ℕ) → k ≤ 15 → octal (used n k) ≡ run n 0 k
unfolding octal used
octal_used n zero h = sym (run_zero n 0)
octal_used n (suc k) h =
    let s : run n 0 (suc k) ≡ run n 0 k * 8 + digit n (suc k) = rw zero-add at (run_suc n 0 k (omega arith)) in
    rw (octal_used n k (omega arith)) (sym s)

pub length_used : (n k : ℕ) → length (used n k) ≡ k
unfolding used
length_used n zero = refl
length_used n (suc k) = ap suc (length_used n k)

-- where each of the digits r + 1 to r + i is 7 the run is all ones, and the other way round
pub sevens : (n r i : ℕ) → r + i ≤ 15 → ((j : ℕ) → r < j → j ≤ r + i → digit n j ≡ 7) → run n r i ≡ 8 ^ i - 1
sevens n r zero h e = run_zero n r
sevens n r (suc i) h e =
    let ih = sevens n r i (omega arith) (λ j g l. e j g (omega arith)) in
    let d = e (r + suc i) (omega arith) (omega arith) in
    omega (arith, run_suc n r i h, pow-suc 8 i, eights_pos i)

pub sevens_back : (n r i : ℕ) → r + i ≤ 15 → run n r i ≡ 8 ^ i - 1 → (j : ℕ) → r < j → j ≤ r + i → digit n j ≡ 7
sevens_back n r zero h e j g l = absurd (none j g l)
  where
    none : (j : ℕ) → r < j → j ≤ r + 0 → ⊥
    none j g l = omega arith
sevens_back n r (suc i) h e j g l =
    let s = run_suc n r i h in
    let b : digit n (r + suc i) < 8 = mod-lt _ (omega arith) in
    let d : digit n (r + suc i) ≡ 7 = omega (arith, s, pow-suc 8 i, eights_pos i) in
    let e' : run n r i ≡ 8 ^ i - 1 = omega (arith, s, pow-suc 8 i, eights_pos i) in
    ⊎_elim (λ (q : j ≡ r + suc i). ap (digit n) q ∙ d) (λ m. sevens_back n r i (omega arith) e' j g (omega arith)) (eq-or-lt_of_le l)
