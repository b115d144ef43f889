-- The carry with skip makes the digits of the next position, and the skip that goes with them, under a pentagon too. Assumes nothing.
use mathlib.Core.Path.{◌≡◌, refl, sym, ap, ◌∙◌, subst}
use mathlib.Core.Bool.{Bool, true, false, cond, ◌&&◌}
use mathlib.Core.Logic.{⊎_elim, ◌⊎◌}
use mathlib.Core.List.{List, [], ◌∷◌, ◌++◌}
use Prim.Native.Nat.{ℕ, zero, suc, ◌+◌, ◌-◌, ◌*◌, ◌/◌, ◌%◌, ◌^◌, ◌≤◌, ◌<◌}
use native.Mathlib.Nat.{eq-or-lt_of_le, eq-zero-or-pos, add-suc}
use native.Mathlib.Omega.{arith}
use lib.Dec.{eqb, ltb}
use Rattle.std.proofs.Math.Bool.{and-false}
use lib.IntN.{ℤ, pos, negsuc, pred_ℤ}
use lib.ListN.{length, length-append}
use borrow.Author.Tests.{lt-ltb, le-ltb, eq-eqb, ne_eqb}
use Rattle.index.specs.View.{octal, first}
use Rattle.descent.specs.Descendants.{count}
use Rattle.descent.specs.Positions.{below}
use Rattle.plane.specs.Points.{equal}
use Rattle.children.specs.Skips.{lead}
use Rattle.descent.proofs.Counts.{up}
use Rattle.descent.proofs.Below.{first_zero, first_far}
use Rattle.descent.proofs.Strings.{first_append}

-- the digit 1 of resolution r is skipped
abbrev pub skips_at : ℤ → ℕ → Bool
skips_at s r = equal s (pos r)

-- the m lowest digits of x with eight as its base, the finest first
unfoldable pub octs : ℕ → ℕ → List ℕ
octs zero x = []
octs (suc m) x = x % 8 ∷ octs m (x / 8)

-- one more, with carry and skip, where a cell of resolution `own` is above the digits
unfoldable pub carried : ℤ → ℕ → List ℕ → List ℕ
carried s own [] = []
carried s own (d ∷ ds) =
    cond (eqb d 0 && skips_at s (own + suc (length ds))) (2 ∷ ds) (cond (ltb d 6) (suc d ∷ ds) (0 ∷ carried s own ds))

-- the skip after it
unfoldable pub fallen : ℤ → ℕ → List ℕ → ℤ
fallen s own [] = s
fallen s own (d ∷ ds) = cond (eqb d 0 && skips_at s (own + suc (length ds))) (pred_ℤ s) (cond (ltb d 6) s (fallen s own ds))

-- the number y and the skip s after the number x and the skip z
pub record Advanced (x : ℕ) (z : ℤ) (own target y : ℕ) (s : ℤ) : Type 0 where
  pub digits : let ds = octs (target - own) (x / 8 ^ (15 - target)) in
      y + 8 ^ (15 - target) * octal ds ≡ x + 8 ^ (15 - target) * octal (carried z own ds)
  pub skip : s ≡ fallen z own (octs (target - own) (x / 8 ^ (15 - target)))

-- the skip over the digits below a cell of resolution `own`
abbrev pub mark : Bool → ℕ → List ℕ → ℤ
mark t own ds = cond t (pos (own + lead ds)) (negsuc 0)

pub lead_none : (ds : List ℕ) → first ds ≡ 0 → lead ds ≡ length ds
unfolding lead
lead_none [] e = refl
lead_none (d ∷ ds) e = rw e

pub lead_le : (ds : List ℕ) → lead ds ≤ length ds
unfolding lead
lead_le [] = omega arith
lead_le (d ∷ ds) = pick (eqb (first (d ∷ ds)) 0) (lead_le ds)
  where
    pick : (t : Bool) → lead ds ≤ length ds → cond t (suc (length ds)) (lead ds) ≤ suc (length ds)
    pick true h = omega arith
    pick false h = omega arith

-- a first digit that is not 0 stands before the finest one or is it
pub lead_cons : (d : ℕ) (ds : List ℕ) → (first (d ∷ ds) ≡ 0 → ⊥) → lead (d ∷ ds) ≡ lead ds
unfolding lead
lead_cons d ds h = rw (ne_eqb (first (d ∷ ds)) 0 h)

pub first_cons : (d : ℕ) (ds : List ℕ) → 0 < d → first (d ∷ ds) ≡ 0 → ⊥
unfolding first
first_cons d ds h e = pick (first ds) (eq-zero-or-pos (first ds)) e
  where
    pick : (f : ℕ) → (f ≡ 0) ⊎ (0 < f) → cond (eqb f 0) d f ≡ 0 → ⊥
    pick f = ⊎_elim (λ (z : f ≡ 0) e. omega (arith, rw z at e)) (λ (l : 0 < f) e. omega (arith, rw (ne_eqb f 0 (omega arith)) at e))

pub first_rest : (d : ℕ) (ds : List ℕ) → 0 < first ds → first (d ∷ ds) ≡ first ds
unfolding first
first_rest d ds h = rw (ne_eqb (first ds) 0 (omega arith))

-- what one step says of the digits ds of a position, where es are those of the next
pub record Stepped (t : Bool) (own : ℕ) (ds es : List ℕ) : Type 0 where
  pub digits : carried (mark t own ds) own ds ≡ es
  pub skip : fallen (mark t own ds) own ds ≡ mark t own es

off : (d : ℕ) (s : ℤ) (r : ℕ) → skips_at s r ≡ false → eqb d 0 && skips_at s r ≡ false
off d s r e = rw e (and-false (eqb d 0))

-- no skip here and a digit below 6
low : (s : ℤ) (own d : ℕ) (ds : List ℕ) → skips_at s (own + suc (length ds)) ≡ false → d < 6 → (carried s own (d ∷ ds) ≡ suc d ∷ ds) × (fallen s own (d ∷ ds) ≡ s)
unfolding carried fallen
low s own d ds e h = let o = off d s (own + suc (length ds)) e in (rw (o, lt-ltb d 6 h), rw (o, lt-ltb d 6 h))

six : (s : ℤ) (own d : ℕ) (ds : List ℕ) → skips_at s (own + suc (length ds)) ≡ false → d ≡ 6 → (carried s own (d ∷ ds) ≡ 0 ∷ carried s own ds) × (fallen s own (d ∷ ds) ≡ fallen s own ds)
unfolding carried fallen
six s own d ds e h = let o = off d s (own + suc (length ds)) e in let l = le-ltb d 6 (omega arith) in (rw (o, l), rw (o, l))

pub hexagon_step : (own m p : ℕ) → Stepped false own (below false m p) (below false m (suc p))
unfolding below carried fallen
hexagon_step own zero p = record { digits = refl; skip = refl }
hexagon_step own (suc m) p =
    ⊎_elim
    (λ (e : p % 7 ≡ 6).
    let a : suc p % 7 ≡ 0 = omega arith in
    let b : suc p / 7 ≡ suc (p / 7) = omega arith in
    let ih = hexagon_step own m (p / 7) in
    let s = six (negsuc 0) own (p % 7) (below false m (p / 7)) refl e in
    record { digits = s.0 ∙ rw (a, b, ih.digits); skip = s.1 ∙ ih.skip })
    (λ (l : p % 7 < 6).
    let a : suc p % 7 ≡ suc (p % 7) = omega arith in
    let b : suc p / 7 ≡ p / 7 = omega arith in
    let s = low (negsuc 0) own (p % 7) (below false m (p / 7)) refl l in
    record { digits = s.0 ∙ rw (a, b); skip = s.1 })
    (eq-or-lt_of_le (let h : p % 7 ≤ 6 = omega arith in h))

-- all digits are 0: the finest goes to 2, past the deleted 1, and the skip falls by one
start : (own : ℕ) (ds : List ℕ) → first ds ≡ 0 → Stepped true own (0 ∷ ds) (2 ∷ ds)
unfolding carried fallen first
start own ds z =
    let a : lead (0 ∷ ds) ≡ suc (length ds) = lead_none (0 ∷ ds) (rw z) in
    let b : lead (2 ∷ ds) ≡ length ds = lead_cons 2 ds (first_cons 2 ds (omega arith)) ∙ lead_none ds z in
    let t : eqb (own + lead (0 ∷ ds)) (own + suc (length ds)) ≡ true = eq-eqb (own + lead (0 ∷ ds)) (own + suc (length ds)) (omega arith) in
    record { digits = rw t; skip = rw t (rw (a, b, add-suc)) }

pub pentagon_step : (own m p : ℕ) → suc p < count true m → Stepped true own (below true m p) (below true m (suc p))
unfolding below
pentagon_step own zero p h = absurd (let z : ⊥ = omega arith in z)
pentagon_step own (suc m) zero h = start own (below true m 0) (first_zero m)
pentagon_step own (suc m) (suc p) h =
    let x : ℕ = suc (suc p) in
    let tl : List ℕ = below true m (x / 7) in
    let ds : List ℕ = x % 7 ∷ tl in
    let f : 2 ≤ first ds = first_far (suc m) (suc p) (omega arith) (omega arith) in
    let z : lead ds ≡ lead tl = lead_cons (x % 7) tl (λ e. omega arith) in
    let k : skips_at (mark true own ds) (own + suc (length tl)) ≡ false = ne_eqb (own + lead ds) (own + suc (length tl)) (λ e. omega (arith, lead_le tl)) in
    ⊎_elim
    (λ (q : x % 7 ≡ 6).
    let a : suc x % 7 ≡ 0 = omega arith in
    let b : suc x / 7 ≡ suc (x / 7) = omega arith in
    let g : suc (x / 7) < count true m = subst (λ (i : ℕ). i < count true m) b (up true m x h) in
    let ih = pentagon_step own m (x / 7) g in
    let s = six (mark true own ds) own (x % 7) tl k q in
    let w : mark true own ds ≡ mark true own tl = ap (λ (i : ℕ). pos (own + i)) z in
    let es : List ℕ = below true m (suc (x / 7)) in
    let far : 2 ≤ first es = first_far m (suc (x / 7)) (omega arith) g in
    let e : lead (0 ∷ es) ≡ lead es = lead_cons 0 es (λ e. omega (arith, first_rest 0 es (omega arith))) in
    record {
      digits = s.0 ∙ rw (a, b) (ap (λ (l : List ℕ). 0 ∷ l) (ap (λ (i : ℤ). carried i own tl) w ∙ ih.digits));
      skip = s.1 ∙ ap (λ (i : ℤ). fallen i own tl) w ∙ ih.skip ∙ rw (a, b) (ap (λ (i : ℕ). pos (own + i)) (sym e));
    })
    (λ (l : x % 7 < 6).
    let a : suc x % 7 ≡ suc (x % 7) = omega arith in
    let b : suc x / 7 ≡ x / 7 = omega arith in
    let s = low (mark true own ds) own (x % 7) tl k l in
    let e : lead (suc (x % 7) ∷ tl) ≡ lead tl = lead_cons (suc (x % 7)) tl (first_cons (suc (x % 7)) tl (omega arith)) in
    record { digits = s.0 ∙ rw (a, b); skip = s.1 ∙ rw (a, b) (ap (λ (i : ℕ). pos (own + i)) (z ∙ sym e)) })
    (eq-or-lt_of_le (let w : x % 7 ≤ 6 = omega arith in w))

pub step : (t : Bool) (own m p : ℕ) → suc p < count t m → Stepped t own (below t m p) (below t m (suc p))
step true own m p h = pentagon_step own m p h
step false own m p h = hexagon_step own m p

-- above zeros the digits before the first that is not 0 are those and the ones below
pub lead_append : (xs ys : List ℕ) → first ys ≡ 0 → lead (xs ++ ys) ≡ length ys + lead xs
unfolding lead
lead_append [] ys z = omega (arith, lead_none ys z)
lead_append (x ∷ xs) ys z =
    let a : first ((x ∷ xs) ++ ys) ≡ first (x ∷ xs) = first_append (x ∷ xs) ys ∙ rw z in
    rw (a, lead_append xs ys z, length-append xs ys) (pick (eqb (first (x ∷ xs)) 0))
  where
    pick : (t : Bool) → cond t (suc (length xs + length ys)) (length ys + lead xs) ≡ length ys + cond t (suc (length xs)) (lead xs)
    pick true = omega arith
    pick false = refl
