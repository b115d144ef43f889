-- Each position has a descendant and each descendant a position; a later position has a greater descendant. Assumes nothing.
use mathlib.Core.Path.{◌≡◌, refl, ap, ◌∙◌, subst}
use mathlib.Core.Bool.{Bool, true, false, ◌&&◌, false≢true}
use mathlib.Core.Logic.{⊎_elim}
use mathlib.Core.List.{List, ◌++◌}
use Prim.Native.Nat.{ℕ, ◌+◌, ◌-◌, ◌^◌, ◌≤◌, ◌<◌}
use native.Mathlib.Nat.{eq-or-lt_of_le}
use native.Mathlib.Decide.{dec_le}
use native.Mathlib.Omega.{arith}
use lib.Dec.{eqb}
use lib.ListN.{length, length-append}
use borrow.Author.Tests.{eqb-true}
use Rattle.index.specs.Layout.{res_of, base_of, is_pentagonal, first_of, Valid}
use Rattle.index.specs.View.{used, first, Fit}
use Rattle.plane.specs.Strings.{Digits}
use Rattle.index.proofs.View.{packed, fit, first_used}
use Rattle.descent.specs.Descendants.{Descendant, pentagon, count, count_of}
use Rattle.descent.specs.Positions.{below, rank, child_at, seg, position_of}
use Rattle.descent.proofs.Strings.{octal_append, first_append, digits_front, pack_mono, used_tail, used_digit, digit_used, length_seg, used_seg}
use Rattle.descent.proofs.Below.{length_below}
use Rattle.descent.proofs.Start.{child_fits, child_valid, child_res, child_base, child_used}
use Rattle.descent.proofs.Ranks.{mono, ranked, ranked_hexagon}

-- digits that are right below a cell have a position
placed : (f : Bool) (xs : List ℕ) → Digits xs → (f ≡ true → first xs ≡ 1 → ⊥) → (below f (length xs) (rank f xs) ≡ xs) × (rank f xs < count f (length xs))
placed true xs s h = let r = ranked xs s (h refl) in (r.back, r.under)
placed false xs s h = ranked_hexagon xs s

pub and_zero : (a : Bool) (x : ℕ) → a && eqb x 0 ≡ true → (a ≡ true) × (x ≡ 0)
and_zero true x e = (refl, eqb-true x 0 e)
and_zero false x e = (e, absurd (false≢true e))

module _ (n t : ℕ) (h64 : n < 2 ^ 64) (v : Valid n) (lo : res_of n ≤ t) (hi : t ≤ 15) where
  pub child_lead : (p : ℕ) → p < count_of n t → used (child_at n t p) (res_of n) ≡ used n (res_of n)
  child_lead p hp =
      let xs : List ℕ = below (pentagon n) (t - res_of n) p in
      used_tail xs (used n (res_of n)) (child_at n t p) t (res_of n)
      (rw (length_below (pentagon n) (t - res_of n) p) (omega arith)) (child_used n t h64 v lo hi p hp)

  pub sound : (p : ℕ) → p < count_of n t → Descendant n t (child_at n t p)
  sound p hp =
      record {
        fits = let l = child_fits n t h64 v lo hi p hp in omega arith;
        fine = child_res n t h64 v lo hi p hp;
        base = child_base n t h64 v lo hi p hp;
        lead = used_digit (child_at n t p) n (res_of n) (child_lead p hp);
        valid = child_valid n t h64 v lo hi p hp;
      }

  pub later : (p q : ℕ) → p < q → q < count_of n t → child_at n t p < child_at n t q
  unfolding child_at
  later p q h hq =
      let f : Bool = pentagon n in
      let m : ℕ = t - res_of n in
      let us : List ℕ = used n (res_of n) in
      pack_mono (base_of n) (below f m p ++ us) (below f m q ++ us)
      (rw (length-append, length-append, length_below f m p, length_below f m q))
      (rw (octal_append, octal_append, length_below f m p, length_below f m q) (omega (arith, mono f m p q h hq)))

  -- the digits of a descendant below n
  split : (y : ℕ) → Descendant n t y → used y (res_of y) ≡ seg y (res_of n) (t - res_of n) ++ used n (res_of n)
  split y d =
      let k : ℕ = res_of n in
      let e : t ≡ k + (t - k) = omega arith in
      ap (used y) (d.fine ∙ e) ∙ used_seg y k (t - k) ∙ ap (λ (z : List ℕ). seg y k (t - k) ++ z) (digit_used y n k d.lead)

  -- they are those of a position
  pub digits_back : (y : ℕ) → Descendant n t y → let xs = seg y (res_of n) (t - res_of n) in
      (below (pentagon n) (t - res_of n) (rank (pentagon n) xs) ≡ xs) × (rank (pentagon n) xs < count_of n t)
  digits_back y d =
      let k : ℕ = res_of n in
      let m : ℕ = t - k in
      let xs : List ℕ = seg y k m in
      let o : Fit (base_of y) (used y (res_of y)) = fit y d.valid in
      let e = split y d in
      let s : Digits xs = digits_front xs (used n k) (subst Digits e o.digits) in
      let kept : pentagon n ≡ true → first xs ≡ 1 → ⊥ = λ q g.
      let a = and_zero (is_pentagonal (base_of n)) (first_of n k) q in
      o.kept (ap is_pentagonal d.base ∙ a.0) (ap first e ∙ first_append xs (used n k) ∙ rw (first_used n k, a.1) g) in
      let r = placed (pentagon n) xs s kept in
      let l = length_seg y k m in (
        subst (λ (z : ℕ). below (pentagon n) z (rank (pentagon n) xs) ≡ xs) l r.0,
        subst (λ (z : ℕ). rank (pentagon n) xs < count (pentagon n) z) l r.1,
      )

  -- child at the position of a descendant is that descendant
  pub complete : (y : ℕ) → Descendant n t y → (position_of n y < count_of n t) × (child_at n t (position_of n y) ≡ y)
  unfolding child_at
  complete y d =
      let r = digits_back y d in
      rw d.fine (r.1, rw (r.0, ← d.base, ← (split y d)) (packed y d.fits d.valid))

  -- position of the child at p is p
  pub position_child : (p : ℕ) → p < count_of n t → position_of n (child_at n t p) ≡ p
  position_child p hp =
      let q : ℕ = position_of n (child_at n t p) in
      let c = complete (child_at n t p) (sound p hp) in
      level q p c.0 hp c.1
    where
      level : (q p : ℕ) → q < count_of n t → p < count_of n t → child_at n t q ≡ child_at n t p → q ≡ p
      level q p hq hp e = elim (dec_le q p) [ yes l ↦ ⊎_elim (λ (s : q ≡ p). s) (λ g. absurd (let w = later q p g hp in omega arith)) (eq-or-lt_of_le l) | no g ↦ absurd (g (let w = later p q (omega arith) hq in omega arith)) ]
