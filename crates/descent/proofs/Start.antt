-- The child at a position as a number: the cell's own digits, those of the position below them, and its place value from the first child.
-- Assumes nothing.
use mathlib.Core.Path.{◌≡◌, refl, sym, ap, ◌∙◌, subst}
use mathlib.Core.Bool.{Bool}
use mathlib.Core.List.{List, ◌++◌}
use Prim.Native.Nat.{ℕ, ◌+◌, ◌-◌, ◌*◌, ◌^◌, ◌≤◌, ◌<◌}
use native.Mathlib.Nat.{pow-le-pow_right}
use native.Mathlib.Omega.{arith}
use lib.Pow.{pow-add}
use lib.ListN.{length, length-append}
use Rattle.index.specs.Layout.{res_of, base_of, Valid}
use Rattle.index.specs.View.{used, octal, pack, Fit}
use Rattle.index.proofs.Runs.{eights_pos, length_used}
use Rattle.index.proofs.View.{packed, fit, first_used, pack_fits, pack_valid, pack_res, pack_base, pack_used}
use Rattle.descent.specs.Descendants.{pentagon, count_of}
use Rattle.descent.specs.Positions.{below, child_at}
use Rattle.descent.proofs.Strings.{octal_append}
use Rattle.descent.proofs.Counts.{count_pos}
use Rattle.descent.proofs.Below.{length_below, octal_zero, fit_child}

-- y the own digits, x those of the position; s = m u is the place below the own digits, u the place of the finest
sums : (n b own t y x m u s : ℕ) → own ≤ t → s ≡ m * u → 1 ≤ u → u ≤ s →
    n ≡ 2 ^ 59 + own * 2 ^ 52 + b * 2 ^ 45 + (y * s + (s - 1)) →
    n - (s - u) + (t - own) * 2 ^ 52 + u * x ≡ 2 ^ 59 + t * 2 ^ 52 + b * 2 ^ 45 + ((y * m + x) * u + (u - 1))
sums n b own t y x m u s l e p q h =
    let k : y * s ≡ y * (m * u) = ap (λ (z : ℕ). y * z) e in
    omega arith

-- the steps of `Descent::first`
pub record Opened (n t own unit span : ℕ) : Type 0 where
  pub order : unit ≤ span
  pub less : span - unit ≤ n
  pub first : n - (span - unit) + (t - own) * 2 ^ 52 ≡ child_at n t 0

module _ (n t : ℕ) (h64 : n < 2 ^ 64) (v : Valid n) (lo : res_of n ≤ t) (hi : t ≤ 15) where
  abbrev f : Bool
  f = pentagon n

  abbrev m : ℕ
  m = t - res_of n

  pub some_child : 0 < count_of n t
  some_child = count_pos f m

  pub unit_room : 8 ^ (15 - t) * 8 ^ m ≤ 2 ^ 45
  unit_room =
      let q : 15 - t + m ≤ 15 = omega arith in
      let e : 8 ^ (15 - t + m) ≤ 8 ^ 15 = pow-le-pow_right (omega arith) q in
      rw (pow-add 8 (15 - t) m) at e

  module _ (p : ℕ) (hp : p < count_of n t) where
    abbrev ds : List ℕ
    ds = below f m p ++ used n (res_of n)

    pub fit_here : Fit (base_of n) ds
    fit_here =
        fit_child f (base_of n) m p (used n (res_of n)) (fit n v) (rw (first_used n (res_of n)))
        (rw (length_used n (res_of n)) (omega arith)) hp

    pub long : length ds ≡ t
    long = rw (length-append, length_below f m p, length_used n (res_of n)) (omega arith)

    pub child_fits : child_at n t p < 2 ^ 60
    unfolding child_at
    child_fits = pack_fits _ _ fit_here

    pub child_valid : Valid (child_at n t p)
    unfolding child_at
    child_valid = pack_valid _ _ fit_here

    pub child_res : res_of (child_at n t p) ≡ t
    unfolding child_at
    child_res = pack_res _ _ fit_here ∙ long

    pub child_base : base_of (child_at n t p) ≡ base_of n
    unfolding child_at
    child_base = pack_base _ _ fit_here

    pub child_used : used (child_at n t p) t ≡ ds
    unfolding child_at
    child_used = subst (λ (k : ℕ). used (pack (base_of n) ds) k ≡ ds) long (pack_used _ _ fit_here)

    module _ (own unit span : ℕ) (eo : own ≡ res_of n) (eu : unit ≡ 8 ^ (15 - t)) (es : span ≡ 8 ^ (15 - own)) where
      product : span ≡ 8 ^ (t - own) * unit
      product =
          let q : 15 - own ≡ t - own + (15 - t) = omega arith in
          es ∙ ap (λ (k : ℕ). 8 ^ k) q ∙ pow-add 8 (t - own) (15 - t) ∙ ap (λ (z : ℕ). 8 ^ (t - own) * z) (sym eu)

      unit_le : unit ≤ span
      unit_le = let m : 8 ^ (15 - t) ≤ 8 ^ (15 - own) = pow-le-pow_right (omega arith) (omega arith) in omega arith

      whole : n ≡ 2 ^ 59 + own * 2 ^ 52 + base_of n * 2 ^ 45 + (octal (used n (res_of n)) * span + (span - 1))
      unfolding pack
      whole = rw (es, eo) (sym (rw (length_used n (res_of n)) at (packed n h64 v)))

      span_le : span - unit ≤ n
      span_le = omega (arith, whole, eights_pos (15 - t))

      total : n - (span - unit) + (t - own) * 2 ^ 52 + unit * octal (below f m p) ≡ child_at n t p
      unfolding pack child_at
      total =
          sums n (base_of n) own t (octal (used n (res_of n))) (octal (below f m p)) (8 ^ (t - own)) unit span (omega arith) product (omega (arith, eights_pos (15 - t))) unit_le whole
          ∙ rw (long, octal_append, length_below f m p, eu, eo)

  pub opened : (own unit span : ℕ) → own ≡ res_of n → unit ≡ 8 ^ (15 - t) → span ≡ 8 ^ (15 - own) → Opened n t own unit span
  opened own unit span eo eu es =
      record {
        order = unit_le 0 some_child own unit span eo eu es;
        less = span_le 0 some_child own unit span eo eu es;
        first = plain _ _ _ _ (octal_zero f m) (total 0 some_child own unit span eo eu es);
      }
    where
      plain : (a u x z : ℕ) → x ≡ 0 → a + u * x ≡ z → a ≡ z
      plain a u x z e h = omega (arith, rw e at h)

  -- the child at p by place value from the first one
  pub child_sum : (p : ℕ) → p < count_of n t → child_at n t 0 + 8 ^ (15 - t) * octal (below f m p) ≡ child_at n t p
  child_sum p hp =
      let o = opened (res_of n) (8 ^ (15 - t)) (8 ^ (15 - res_of n)) refl refl refl in
      ap (λ (z : ℕ). z + 8 ^ (15 - t) * octal (below f m p)) (sym o.first) ∙ total p hp (res_of n) (8 ^ (15 - t)) (8 ^ (15 - res_of n)) refl refl refl

  -- that number fits and is a cell
  pub child_made : (p s : ℕ) → p < count_of n t → s ≡ child_at n t 0 + 8 ^ (15 - t) * octal (below f m p) → (s ≡ child_at n t p) × (s < 2 ^ 60) × Valid s
  child_made p s hp e = let q = e ∙ child_sum p hp in (q, rw q (child_fits p hp), rw q (child_valid p hp))
