-- How many digits come before the first that is not 0, by the leading zeros of their word. Assumes nothing.
use mathlib.Core.Path.{◌≡◌, refl, sym, ap, ◌∙◌}
use mathlib.Core.Logic.{⊎_elim, ◌⊎◌, inl, inr}
use mathlib.Core.List.{◌∷◌}
use Prim.Native.Nat.{ℕ, zero, suc, ◌+◌, ◌-◌, ◌*◌, ◌/◌, ◌%◌, ◌^◌, ◌≤◌, ◌<◌}
use native.Mathlib.Nat.{eq-zero-or-pos, mod-lt, pow-suc, pow-le-pow_right}
use native.Mathlib.Omega.{arith}
use Rattle.std.proofs.lemmas.Nat.{mod-pow-add}
use lib.Arith.{digits_div}
use lib.Pow.{pow_pos}
use lib.Count.{count_leading_zeros, leading_of_zero}
use Rattle.index.specs.Layout.{digit}
use Rattle.index.specs.View.{used, octal, first}
use Rattle.index.proofs.Runs.{run, place, octal_used, length_used}
use Rattle.index.proofs.View.{run_lt}
use Rattle.children.specs.Skips.{lead}
use Rattle.children.proofs.Carry.{lead_none, lead_cons, first_cons, first_rest}
use Rattle.descent.proofs.Shifts.{digits_long}

abbrev Blank : ℕ → ℕ → Type 0
Blank n k = (octal (used n k) ≡ 0) × (first (used n k) ≡ 0)

abbrev Begun : ℕ → ℕ → Type 0
Begun n k = (l : ℕ) × (8 ^ l ≤ octal (used n k)) × (octal (used n k) < 8 ^ suc l) × (0 < first (used n k)) × (lead (used n k) + suc l ≡ k)

-- the digits 1 to k are all 0, or the l + 1 finest of them hold the first that is not
sized : (n k : ℕ) → Blank n k ⊎ Begun n k
unfolding used octal first
sized n zero = inl (refl, refl)
sized n (suc k) =
    let d : ℕ = digit n (suc k) in
    let d_lt : d < 8 = mod-lt _ (omega arith) in
    ⊎_elim
    (λ (b : Blank n k).
    let o : octal (used n (suc k)) ≡ d = rw b.0 (omega arith) in
    let f : first (used n (suc k)) ≡ d = rw b.1 in
    ⊎_elim
    (λ (z : d ≡ 0). inl (o ∙ z, f ∙ z))
    (λ (g : 0 < d).
    let e : lead (d ∷ used n k) ≡ k = lead_cons d (used n k) (first_cons d (used n k) g) ∙ lead_none (used n k) b.1 ∙ length_used n k in
    inr (0, omega arith, omega arith, omega arith, omega arith))
    (eq-zero-or-pos d))
    (λ (b : Begun n k).
    let e : first (d ∷ used n k) ≡ first (used n k) = first_rest d (used n k) b.3 in
    let h : lead (d ∷ used n k) ≡ lead (used n k) = lead_cons d (used n k) (λ z. omega (arith, b.3, e)) in
    inr (suc b.0, omega (arith, b.1, pow-suc 8 b.0), omega (arith, b.2, pow-suc 8 (suc b.0)), omega (arith, e, b.3), omega (arith, h, b.4)))
    (sized n k)

shifted : (n k : ℕ) → k ≤ 15 → n % 2 ^ 45 / 2 ^ (3 * (15 - k)) ≡ run n 0 k
unfolding run
shifted n k h =
    let j : ℕ = 3 * (15 - k) in
    let e : 45 ≡ 3 * k + j = omega arith in
    let z : 0 + k ≡ k = omega arith in
    ap (λ (i : ℕ). n % 2 ^ i / 2 ^ j) e ∙ ap (λ (m : ℕ). m / 2 ^ j) (mod-pow-add n (3 * k) j) ∙ digits_div (n / 2 ^ j % 2 ^ (3 * k)) (mod-lt n (pow_pos j))
    ∙ rw (place k, z) refl

-- in the words of `leading`
pub lead_zeros : (n k n' k' v : ℕ) → n' ≡ n → k' ≡ k → k ≤ 15 → v ≡ n' % 2 ^ 45 / 2 ^ (3 * (15 - k')) →
    ((66 - count_leading_zeros 64 v) / 3 ≤ k') × (k' - (66 - count_leading_zeros 64 v) / 3 ≡ lead (used n k))
lead_zeros n k n' k' v en ek h ev =
    let w : v ≡ octal (used n k) = ev ∙ rw (en, ek) (shifted n k h ∙ sym (octal_used n k h)) in
    ⊎_elim
    (λ (b : Blank n k).
    let e : (66 - count_leading_zeros 64 v) / 3 ≡ 0 = rw (w ∙ b.0, leading_of_zero 64) in
    (omega arith, omega (arith, lead_none (used n k) b.1, length_used n k)))
    (λ (b : Begun n k).
    let l : 8 ^ k ≤ 8 ^ 15 = pow-le-pow_right (omega arith) h in
    let s : v < 2 ^ 64 = omega (arith, w, octal_used n k h, run_lt n 0 k) in
    let e : (66 - count_leading_zeros 64 v) / 3 ≡ suc b.0 = digits_long v b.0 s (rw w b.1) (rw w b.2) in
    (omega (arith, b.4), omega (arith, b.4)))
    (sized n k)
