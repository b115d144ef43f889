-- One turn of the loop that counts up the packed number with carry and skip. Assumes nothing.
use mathlib.Core.Path.{◌≡◌, refl, sym, ap, ◌∙◌, subst}
use mathlib.Core.Bool.{Bool, true, false, ◌&&◌, false≢true}
use mathlib.Core.List.{List, ◌∷◌}
use Prim.Native.Nat.{ℕ, zero, suc, ◌+◌, ◌-◌, ◌*◌, ◌/◌, ◌%◌, ◌≤◌, ◌<◌}
use native.Mathlib.Nat.{add-div_right, div-add-mod', mod-lt, not-suc-le-zero}
use native.Mathlib.Numerals.{sub-one}
use native.Mathlib.Omega.{arith}
use lib.Arith.{digits_div}
use lib.Dec.{eqb, eqb-suc-suc}
use lib.IntN.{ℤ, pred_ℤ}
use lib.ListN.{length}
use borrow.Author.Tests.{lt-ltb, le-ltb, eqb-true}
use Rattle.index.specs.View.{octal}
use Rattle.plane.specs.Strings.{Digits}
use Rattle.children.proofs.Carry.{skips_at, octs, carried, fallen}

pub length_octs : (m x : ℕ) → length (octs m x) ≡ m
unfolding octs
length_octs zero x = refl
length_octs (suc m) x = ap suc (length_octs m (x / 8))

octs_step : (m x : ℕ) → 0 < m → octs m x ≡ x % 8 ∷ octs (m - 1) (x / 8)
unfolding octs
octs_step zero x h = absurd (not-suc-le-zero h)
octs_step (suc m) x h = rw (sub-one (suc m))

octal_step : (d : ℕ) (ds : List ℕ) → octal (d ∷ ds) ≡ octal ds * 8 + d
unfolding octal
octal_step d ds = refl

module _ (s : ℤ) (own d : ℕ) (ds : List ℕ) where
  past : eqb d 0 && skips_at s (own + suc (length ds)) ≡ true → (carried s own (d ∷ ds) ≡ 2 ∷ ds) × (fallen s own (d ∷ ds) ≡ pred_ℤ s)
  unfolding carried fallen
  past e = (rw e, rw e)

  more : eqb d 0 && skips_at s (own + suc (length ds)) ≡ false → d < 6 → (carried s own (d ∷ ds) ≡ suc d ∷ ds) × (fallen s own (d ∷ ds) ≡ s)
  unfolding carried fallen
  more e h = (rw (e, lt-ltb d 6 h), rw (e, lt-ltb d 6 h))

  over : eqb d 0 && skips_at s (own + suc (length ds)) ≡ false → 6 ≤ d → (carried s own (d ∷ ds) ≡ 0 ∷ carried s own ds) × (fallen s own (d ∷ ds) ≡ fallen s own ds)
  unfolding carried fallen
  over e h = (rw (e, le-ltb d 6 h), rw (e, le-ltb d 6 h))

-- a is what stands in the loop, u the place that counts up, m the digits from there, s the skip; k and l close the sum
module _ (s : ℤ) (own a u m k l : ℕ) (hu : 0 < u) (hm : 0 < m) (w : Digits (octs m (a / u)))
    (e : a + u * octal (carried s own (octs m (a / u))) + k ≡ l + u * octal (octs m (a / u))) where
  d : ℕ
  d = a / u % 8

  tl : List ℕ
  tl = octs (m - 1) (a / u / 8)

  parts : octs m (a / u) ≡ d ∷ tl
  unfolding d tl
  parts = octs_step m (a / u) hm

  long : own + suc (length tl) ≡ own + m
  unfolding tl
  long = rw (length_octs (m - 1) (a / u / 8)) (omega arith)

  small : d < 7
  small = (subst Digits parts w).0

  pub small_rest : Digits (octs (m - 1) (a / u / 8))
  unfolding tl
  small_rest = (subst Digits parts w).1

  -- the code's digit after the addition
  next : (a + u) / u % 8 ≡ suc d
  unfolding d
  next = rw (add-div_right a hu) (let h : a / u % 8 < 7 = small in omega arith)

  closed : a + u * octal (carried s own (d ∷ tl)) + k ≡ l + u * octal (d ∷ tl)
  closed = subst (λ (x : List ℕ). a + u * octal (carried s own x) + k ≡ l + u * octal x) parts e

  test : (b : Bool) → eqb ((a + u) / u % 8) 1 && skips_at s (own + m) ≡ b → eqb d 0 && skips_at s (own + suc (length tl)) ≡ b
  test b h = rw (long, ← (eqb-suc-suc d 0), ← next) h

  pub hop : eqb ((a + u) / u % 8) 1 && skips_at s (own + m) ≡ true → (a + u + u + k ≡ l) × (fallen s own (octs m (a / u)) ≡ pred_ℤ s)
  hop h =
      let z : d ≡ 0 = zero_of d (skips_at s (own + suc (length tl))) (test true h) in
      let p = past s own d tl (test true h) in
      let c = closed in
      (sum (octal tl) d z (rw (p.0, octal_step 2 tl, octal_step d tl) at c), ap (fallen s own) parts ∙ p.1)
    where
      zero_of : (d : ℕ) (b : Bool) → eqb d 0 && b ≡ true → d ≡ 0
      zero_of d b h = pick (eqb d 0) refl h
        where
          pick : (t : Bool) → eqb d 0 ≡ t → t && b ≡ true → d ≡ 0
          pick true q r = eqb-true d 0 q
          pick false q r = absurd (false≢true r)

      sum : (t d : ℕ) → d ≡ 0 → a + u * (t * 8 + 2) + k ≡ l + u * (t * 8 + d) → a + u + u + k ≡ l
      sum t d z h = omega (arith, rw z at h)

  module _ (h : eqb ((a + u) / u % 8) 1 && skips_at s (own + m) ≡ false) where
    pub hit : (a + u) / u % 8 < 7 → (a + u + k ≡ l) × (fallen s own (octs m (a / u)) ≡ s)
    hit g =
        let p = more s own d tl (test false h) (omega (arith, next)) in
        let c = closed in
        (sum (octal tl) d (rw (p.0, octal_step (suc d) tl, octal_step d tl) at c), ap (fallen s own) parts ∙ p.1)
      where
        sum : (t d : ℕ) → a + u * (t * 8 + suc d) + k ≡ l + u * (t * 8 + d) → a + u + k ≡ l
        sum t d h = omega arith

    module _ (g : 7 ≤ (a + u) / u % 8) where
      is_six : d ≡ 6
      is_six = omega (arith, next, small)

      whole : a ≡ a / u / 8 * 8 * u + 6 * u + a % u
      unfolding d
      whole =
          let q : a / u ≡ a / u / 8 * 8 + 6 = split (a / u) is_six in
          sym (rw q at (div-add-mod' a u)) ∙ spread (a / u / 8) (a % u)
        where
          split : (x : ℕ) → x % 8 ≡ 6 → x ≡ x / 8 * 8 + 6
          split x e = omega arith

          spread : (x r : ℕ) → (x * 8 + 6) * u + r ≡ x * 8 * u + 6 * u + r
          spread x r = omega arith

      pub enough : 7 * u ≤ a + u
      enough = omega (arith, whole)

      cleared : a + u - 7 * u ≡ a / u / 8 * (u * 8) + a % u
      cleared = omega (arith, whole)

      pub shifted : (a + u - 7 * u) / (u * 8) ≡ a / u / 8
      shifted = rw cleared (digits_div (a / u / 8) (let z : a % u < u = mod-lt a hu in omega arith))

      p : (carried s own (d ∷ tl) ≡ 0 ∷ carried s own tl) × (fallen s own (d ∷ tl) ≡ fallen s own tl)
      p = over s own d tl (test false h) (omega (arith, is_six))

      pub again : a + u - 7 * u + u * 8 * octal (carried s own (octs (m - 1) ((a + u - 7 * u) / (u * 8)))) + k ≡ l + u * 8 * octal (octs (m - 1) ((a + u - 7 * u) / (u * 8)))
      unfolding tl
      again =
          let c = closed in
          let q : a + u * (octal (carried s own tl) * 8 + 0) + k ≡ l + u * (octal tl * 8 + 6) = rw (p.0, octal_step 0 (carried s own tl), octal_step d tl, is_six) at c in
          rw shifted (sum (a + u - 7 * u) (octal tl) (octal (carried s own tl)) (omega (arith, enough)) q)
        where
          sum : (b t i : ℕ) → a ≡ b + 6 * u → a + u * (i * 8 + 0) + k ≡ l + u * (t * 8 + 6) → b + u * 8 * i + k ≡ l + u * 8 * t
          sum b t i p h = omega arith

      pub again_skip : fallen s own (octs m (a / u)) ≡ fallen s own (octs (m - 1) ((a + u - 7 * u) / (u * 8)))
      unfolding tl
      again_skip = rw shifted (ap (fallen s own) parts ∙ p.1)

-- no digit is left
pub done : (s : ℤ) (own a u m k l : ℕ) → m ≤ 0 → a + u * octal (carried s own (octs m (a / u))) + k ≡ l + u * octal (octs m (a / u)) → (a + k ≡ l) × (fallen s own (octs m (a / u)) ≡ s)
unfolding octs carried fallen octal
done s own a u zero k l h e = (omega arith, refl)
done s own a u (suc m) k l h e = absurd (not-suc-le-zero h)
