-- Below a pentagon the digits of a position are those of a greater position below a hexagon: 1 + 7 + .. more, as many as there are digits
-- from the first that is not 0. Assumes nothing.
use mathlib.Core.Path.{◌≡◌, refl, sym, ap, ◌∙◌}
use mathlib.Core.Bool.{Bool, true, false, false≢true}
use mathlib.Core.Logic.{⊎_elim, ◌⊎◌, inl, inr}
use Prim.Native.Nat.{ℕ, zero, suc, ◌+◌, ◌-◌, ◌*◌, ◌/◌, ◌%◌, ◌^◌, ◌≤◌, ◌<◌}
use native.Mathlib.Nat.{pow-suc, pow-le-pow_right, eq-zero-or-pos}
use native.Mathlib.Decide.{dec_le}
use native.Mathlib.Omega.{arith}
use lib.Count.{count_leading_zeros, leading_length, leading_of_zero}
use lib.Pow.{pow_mono}
use Rattle.index.specs.View.{octal}
use Rattle.index.proofs.Runs.{place}
use Rattle.index.proofs.View.{octal_lt}
use Rattle.descent.specs.Descendants.{count}
use Rattle.descent.specs.Positions.{below}
use Rattle.descent.proofs.Counts.{ones, sevens_six, ones_six, count_ones, sevens_pos}
use Rattle.descent.proofs.Below.{length_below, digits_below, octal_zero}

-- places past the digits of a position are 0
octal_more : (m j p : ℕ) → p < 7 ^ m → octal (below false (m + j) p) ≡ octal (below false m p)
unfolding octal below
octal_more zero j p h =
    let z : p ≡ 0 = omega arith in
    let e : 0 + j ≡ j = omega arith in
    rw (z, e) (octal_zero false j)
octal_more (suc m) j p h =
    let e : suc m + j ≡ suc (m + j) = omega arith in
    rw (e, octal_more m j (p / 7) (omega (arith, pow-suc 7 m)))

-- sixteen places are enough
pub octal_sixteen : (m p : ℕ) → m ≤ 15 → p < 7 ^ m → (p < 7 ^ 16) × (octal (below false m p) ≡ octal (below false 16 p))
octal_sixteen m p g h =
    let l : 7 ^ m ≤ 7 ^ 16 = pow-le-pow_right (omega arith) {i = m} {j = 16} (omega arith) in
    let e : m + (16 - m) ≡ 16 = omega arith in
    (omega arith, sym (octal_more m (16 - m) p h) ∙ ap (λ (k : ℕ). octal (below false k p)) e)

-- a position's digits from the first that is not 0
octal_least : (m l p : ℕ) → p < 7 ^ m → 7 ^ l ≤ p → 8 ^ l ≤ octal (below false m p)
unfolding octal below
octal_least zero l p h g = absurd (let z : ⊥ = omega (arith, sevens_pos l) in z)
octal_least (suc m) zero p h g =
    ⊎_elim
    (λ (z : p / 7 ≡ 0). omega arith)
    (λ (k : 0 < p / 7). omega (arith, octal_least m 0 (p / 7) (omega (arith, pow-suc 7 m)) k))
    (eq-zero-or-pos (p / 7))
octal_least (suc m) (suc l) p h g =
    let i : 8 ^ l ≤ octal (below false m (p / 7)) = octal_least m l (p / 7) (omega (arith, pow-suc 7 m)) (omega (arith, pow-suc 7 l)) in
    omega (arith, pow-suc 8 l)

octal_most : (m j p : ℕ) → j ≤ m → p < 7 ^ j → octal (below false m p) < 8 ^ j
octal_most m j p g h =
    let e : j + (m - j) ≡ m = omega arith in
    let a : octal (below false m p) ≡ octal (below false j p) = ap (λ (k : ℕ). octal (below false k p)) (sym e) ∙ octal_more j (m - j) p h in
    let b : octal (below false j p) < 8 ^ j = rw (length_below false j p) at (octal_lt (below false j p) (digits_below false j p)) in
    rw a b

-- below a pentagon the digits of p from the first that is not 0 are j
abbrev pub Led : ℕ → ℕ → Type 0
Led p zero = p ≡ 0
Led p (suc i) = (5 * ones i < p) × (p ≤ 5 * ones (suc i))

pub led : (m p : ℕ) → p < count true m → (j : ℕ) × (j ≤ m) × Led p j
led zero p h = (0, omega arith, omega arith)
led (suc m) p h =
    elim (dec_le p (5 * ones m)) [
      | yes l ↦ let r = led m p (omega (arith, count_ones m)) in (r.0, omega (arith, r.1), r.2)
      | no g ↦ (suc m, omega arith, (omega arith, omega (arith, count_ones (suc m))))
    ]

pub led_most : (p j : ℕ) → Led p j → p + ones j < 7 ^ j
unfolding ones
led_most p zero h = omega arith
led_most p (suc i) h = omega (arith, sevens_six (suc i))

led_least : (p i : ℕ) → Led p (suc i) → 7 ^ i ≤ p + ones (suc i)
unfolding ones
led_least p i h = omega (arith, sevens_six i)

pub shifted : (m p j : ℕ) → Led p j → below true m p ≡ below false m (p + ones j)
unfolding below ones
shifted zero p j h = refl
shifted (suc m) p zero h = rw (h, shifted m 0 0 refl)
shifted (suc m) zero (suc i) h = absurd (let z : ⊥ = omega arith in z)
shifted (suc m) (suc p) (suc zero) h =
    let q : suc (suc p) / 7 ≡ 0 = omega arith in
    let e : suc p + 1 ≡ suc (suc p) = omega arith in
    rw (e, q, shifted m 0 0 refl)
shifted (suc m) (suc p) (suc (suc i)) h =
    let l = h.0 in
    let g = h.1 in
    let a : (suc p + ones (suc (suc i))) % 7 ≡ suc (suc p) % 7 = omega arith in
    let b : (suc p + ones (suc (suc i))) / 7 ≡ suc (suc p) / 7 + ones (suc i) = omega arith in
    rw (a, b, shifted m (suc (suc p) / 7) (suc i) (omega arith, omega arith))

-- how many digits a word has, by its leading zeros
pub digits_long : (v l : ℕ) → v < 2 ^ 64 → 8 ^ l ≤ v → v < 8 ^ suc l → (66 - count_leading_zeros 64 v) / 3 ≡ suc l
digits_long v l h a b =
    let w = leading_length 64 v h in
    let n : ℕ = w.0 in
    let lo : 3 * l < n = elim (dec_le n (3 * l)) [
      | yes p ↦ absurd (let q : 2 ^ n ≤ 2 ^ (3 * l) = pow_mono p in let e = place l in let c = w.2 in omega arith)
      | no p ↦ omega arith
    ] in
    let hi : n ≤ 3 * suc l = elim (dec_le (suc (3 * suc l)) n) [
      | yes p ↦ absurd (let q : 2 ^ suc (3 * suc l) ≤ 2 ^ n = pow_mono p in let e = place (suc l) in let f = pow-suc 2 (3 * suc l) in let c = w.3 in omega arith)
      | no p ↦ omega arith
    ] in
    let s = w.1 in
    omega arith

pub led_long : (m p j : ℕ) → j ≤ m → m ≤ 16 → Led p j → (66 - count_leading_zeros 64 (octal (below true m p))) / 3 ≡ j
led_long m p zero g k h = rw (h, octal_zero true m, leading_of_zero 64)
led_long m p (suc i) g k h =
    let e : octal (below true m p) ≡ octal (below false m (p + ones (suc i))) = ap octal (shifted m p (suc i) h) in
    let a : p + ones (suc i) < 7 ^ suc i = led_most p (suc i) h in
    let b : 7 ^ suc i ≤ 7 ^ m = pow-le-pow_right (omega arith) g in
    let c : octal (below false m (p + ones (suc i))) < 8 ^ suc i = octal_most m (suc i) (p + ones (suc i)) g a in
    let d : 8 ^ suc i ≤ 8 ^ 16 = pow-le-pow_right (omega arith) {i = suc i} {j = 16} (omega arith) in
    rw e (digits_long (octal (below false m (p + ones (suc i)))) i (omega arith) (octal_least m i (p + ones (suc i)) (omega arith) (led_least p i h)) c)

-- s is 1 + 7 + .. , j of them, and p has no more digits from the first that is not 0
pub record Stage (m p s : ℕ) : Type 0 where
  pub j : ℕ
  pub few : j ≤ m
  pub same : s ≡ ones j
  pub most : p ≤ 5 * s

pub stage_first : (f : Bool) (m p s : ℕ) → f ≡ true → p < count f m → s ≡ 7 ^ m → Stage m p ((s - 1) / 6)
stage_first f m p s t h e =
    let q : (s - 1) / 6 ≡ ones m = rw e (ones_six m) in
    let c : p < count true m = rw t at h in
    record { j = m; few = omega arith; same = q; most = omega (arith, count_ones m) }

pub stage_next : (m p s : ℕ) → 0 < p → p ≤ 5 * (s / 7) → Stage m p s → Stage m p (s / 7)
unfolding ones
stage_next m p s g l h = go h.j h.few h.same
  where
    go : (j : ℕ) → j ≤ m → s ≡ ones j → Stage m p (s / 7)
    go zero f e = absurd (let z : ⊥ = omega arith in z)
    go (suc i) f e = record { j = i; few = omega arith; same = omega arith; most = l }

-- q is the position of the same digits below a hexagon
abbrev pub Shifted : Bool → ℕ → ℕ → ℕ → Type 0
Shifted f m p q = (octal (below f m p) ≡ octal (below false 16 q)) × (q < 7 ^ 16)

pub stage_last : (f : Bool) (m p s : ℕ) → f ≡ true → m ≤ 15 → 0 < p → 5 * (s / 7) < p → Stage m p s → Shifted f m p (p + s)
unfolding ones
stage_last f m p s t k g l h = rw t (go h.j h.few h.same h.most)
  where
    end : (j : ℕ) → j ≤ m → s ≡ ones j → Led p j → Shifted true m p (p + s)
    end j f e d =
        let r : 7 ^ j ≤ 7 ^ m = pow-le-pow_right (omega arith) f in
        let t = octal_sixteen m (p + ones j) k (omega (arith, led_most p j d)) in
        rw e (ap octal (shifted m p j d) ∙ t.1, t.0)

    go : (j : ℕ) → j ≤ m → s ≡ ones j → p ≤ 5 * s → Shifted true m p (p + s)
    go zero f e n = absurd (let z : ⊥ = omega arith in z)
    go (suc i) f e n = end (suc i) f e (omega arith, omega arith)

-- below no pentagon, or at position 0, nothing is deleted
pub none_deleted : (f : Bool) (m p : ℕ) → m ≤ 15 → p < count f m → (f ≡ false) ⊎ ((f ≡ true) × (p ≡ 0)) → Shifted f m p p
none_deleted false m p k h c = let t = octal_sixteen m p k h in (t.1, t.0)
none_deleted true m p k h (inl e) = absurd (false≢true (sym e))
none_deleted true m p k h (inr (e, z)) = rw z (octal_zero true m ∙ sym (octal_zero false 16), omega arith)
