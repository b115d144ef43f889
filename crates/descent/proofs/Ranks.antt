-- Positions and digits below a cell are in step: a later position has a greater number, and right digits have a position. Assumes nothing.
use mathlib.Core.Path.{◌≡◌, refl, ap}
use mathlib.Core.Bool.{Bool, true, false}
use mathlib.Core.Logic.{⊎_elim}
use mathlib.Core.List.{List, [], ◌∷◌}
use Prim.Native.Nat.{ℕ, zero, suc, ◌+◌, ◌*◌, ◌/◌, ◌%◌, ◌≤◌, ◌<◌}
use native.Mathlib.Nat.{pow-suc, eq-or-lt_of_le}
use native.Mathlib.Omega.{arith}
use lib.ListN.{length}
use Rattle.index.specs.View.{octal, first}
use Rattle.plane.specs.Strings.{Digits}
use Rattle.descent.specs.Descendants.{count}
use Rattle.descent.specs.Positions.{bump, unbump, below, rank}
use Rattle.descent.proofs.Counts.{up, count_suc}

-- a later position has a greater number
bump_mono : (t : Bool) (p q : ℕ) → p < q → bump t p < bump t q
bump_mono true zero zero h = omega arith
bump_mono true zero (suc q) h = omega arith
bump_mono true (suc p) zero h = omega arith
bump_mono true (suc p) (suc q) h = omega arith
bump_mono false p q h = h

pub mono : (t : Bool) (m p q : ℕ) → p < q → q < count t m → octal (below t m p) < octal (below t m q)
unfolding octal below
mono true zero p q h l = omega arith
mono false zero p q h l = omega arith
mono t (suc m) p q h l =
    let b : bump t p < bump t q = bump_mono t p q h in
    ⊎_elim
    (λ (e : bump t p / 7 ≡ bump t q / 7). rw e (omega arith))
    (λ (g : bump t p / 7 < bump t q / 7). let ih = mono t m (bump t p / 7) (bump t q / 7) g (up t m q l) in omega arith)
    (eq-or-lt_of_le (step (bump t p) (bump t q) b))
  where
    step : (a b : ℕ) → a < b → a / 7 ≤ b / 7
    step a b h = omega arith

-- right digits have a position
pub record Ranked (t : Bool) (ds : List ℕ) : Type 0 where
  pub back : below t (length ds) (rank t ds) ≡ ds
  pub under : rank t ds < count t (length ds)
  pub none : rank t ds ≡ 0 → first ds ≡ 0

pub tail_kept : (d : ℕ) (ds : List ℕ) → (first (d ∷ ds) ≡ 1 → ⊥) → first ds ≡ 1 → ⊥
unfolding first
tail_kept d ds h e = h (rw e)

-- v, counted past the deleted digit, is bumped back to v unless it is 1
bumped_back : (v : ℕ) → (v ≡ 1 → ⊥) → bump true (unbump true v) ≡ v
bumped_back zero h = refl
bumped_back (suc zero) h = absurd (h refl)
bumped_back (suc (suc v)) h = refl

unbump_zero : (v : ℕ) → (v ≡ 1 → ⊥) → unbump true v ≡ 0 → v ≡ 0
unbump_zero zero h e = refl
unbump_zero (suc v) h e = absurd (h (ap suc e))

unbump_lt : (v c : ℕ) → v < 7 * c → 1 ≤ c → unbump true v + 1 < 7 * c
unbump_lt zero c h g = omega arith
unbump_lt (suc v) c h g = omega arith

pub ranked : (ds : List ℕ) → Digits ds → (first ds ≡ 1 → ⊥) → Ranked true ds
unfolding below rank first
ranked [] s h = record { back = refl; under = omega arith; none = λ e. refl }
ranked (d ∷ ds) s h =
    let ih = ranked ds s.1 (tail_kept d ds h) in
    let r : ℕ = rank true ds in
    let l = s.0 in
    let u = ih.under in
    let v : ℕ = r * 7 + d in
    let one : v ≡ 1 → ⊥ = λ e.
    let z : r ≡ 0 = omega arith in
    let w : d ≡ 1 = omega arith in
    h (rw (ih.none z, w)) in
    let b : bump true (unbump true v) ≡ v = bumped_back v one in
    let q : v / 7 ≡ r = omega arith in
    let m : v % 7 ≡ d = omega arith in
    record {
      back = rw (b, q, m, ih.back);
      under = omega (arith, count_suc (length ds), unbump_lt v (count true (length ds)) (omega arith) (omega arith));
      none = λ e. let z : v ≡ 0 = unbump_zero v one e in
          let z₁ : r ≡ 0 = omega arith in
          let z₂ : d ≡ 0 = omega arith in
          rw (ih.none z₁, z₂);
    }

pub ranked_hexagon : (ds : List ℕ) → Digits ds → (below false (length ds) (rank false ds) ≡ ds) × (rank false ds < count false (length ds))
unfolding below rank
ranked_hexagon [] s = (refl, omega arith)
ranked_hexagon (d ∷ ds) s =
    let ih = ranked_hexagon ds s.1 in
    let r : ℕ = rank false ds in
    let l = s.0 in
    let u = ih.1 in
    let q : (r * 7 + d) / 7 ≡ r = omega arith in
    let m : (r * 7 + d) % 7 ≡ d = omega arith in
    (rw (q, m, ih.0), omega (arith, pow-suc 7 (length ds)))
