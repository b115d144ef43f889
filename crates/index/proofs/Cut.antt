-- The ancestor: the digits cut at t, and 7 below. In the words of the calls `own` is the resolution, u the place of the digit t.
-- Assumes nothing.
use Rattle.std.proofs.Common.{◌≡◌, ℕ, zero, suc, ◌+◌, ◌-◌, ◌*◌, ◌%◌, ◌^◌, ◌<◌, ◌≤◌, sym, ap, ap₂, ◌∙◌, subst, ⊎_elim, le_of_suc-le-suc, not-suc-le-zero, eq-or-lt_of_le, div-one, arith, pow-add}
use native.Mathlib.Nat.{mod-le}
use lib.Arith.{digits_lt}
use Rattle.index.specs.Layout.{res_of, base_of, first_of, Valid}
use Rattle.index.specs.View.{used, pack, Fit}
use Rattle.index.specs.Ancestor.{ancestor_of}
use Rattle.index.proofs.Runs.{eights_pos, run, octal_used, length_used}
use Rattle.index.proofs.Sum.{sum}
use Rattle.index.proofs.View.{low_split, run_lt, small_used, first_used, pack_valid, pack_res, pack_base, pack_fits, pack_used}

-- where the first of t digits is not 0 it is the first of k digits too
first_on : (n t k : ℕ) → t ≤ k → first_of n t ≡ 1 → first_of n k ≡ 1
unfolding first_of
first_on n t zero h e = ⊎_elim (λ (q : t ≡ 0). subst (λ (x : ℕ). first_of n x ≡ 1) q e) (λ g. absurd (not-suc-le-zero g)) (eq-or-lt_of_le h)
first_on n t (suc k) h e =
    ⊎_elim (λ (q : t ≡ suc k). subst (λ (x : ℕ). first_of n x ≡ 1) q e)
    (λ g. let i : first_of n k ≡ 1 = first_on n t k (le_of_suc-le-suc g) e in rw i)
    (eq-or-lt_of_le h)

-- the cut digits of a cell make a cell
module _ (n t : ℕ) (v : Valid n) (l : t ≤ res_of n) where
  pub fit_cut : Fit (base_of n) (used n t)
  fit_cut =
      record {
        base = v.base;
        short = rw length_used (omega arith);
        digits = small_used n t (λ r g m. v.small r g (omega arith));
        kept = λ q e. v.kept q (first_on n t (res_of n) l (sym (first_used n t) ∙ e));
      }

  pub ancestor_valid : Valid (ancestor_of n t)
  unfolding ancestor_of
  ancestor_valid = pack_valid (base_of n) (used n t) fit_cut

  pub ancestor_res : res_of (ancestor_of n t) ≡ t
  unfolding ancestor_of
  ancestor_res = pack_res (base_of n) (used n t) fit_cut ∙ length_used n t

  pub ancestor_base : base_of (ancestor_of n t) ≡ base_of n
  unfolding ancestor_of
  ancestor_base = pack_base (base_of n) (used n t) fit_cut

  pub ancestor_fits : ancestor_of n t < 2 ^ 60
  unfolding ancestor_of
  ancestor_fits = pack_fits (base_of n) (used n t) fit_cut

  pub ancestor_used : used (ancestor_of n t) t ≡ used n t
  unfolding ancestor_of
  ancestor_used = subst (λ (k : ℕ). used (pack (base_of n) (used n t)) k ≡ used n t) (length_used n t) (pack_used (base_of n) (used n t) fit_cut)

-- what `ancestor` computes, step by step
pub record Steps (n t own u : ℕ) : Type 0 where
  pub one : 1 ≤ u
  pub less : n % u ≤ n
  pub fits : n - n % u + (u - 1) < 2 ^ 64
  pub above : (own - t) * 2 ^ 52 ≤ n - n % u + (u - 1)
  pub total : n - n % u + (u - 1) - (own - t) * 2 ^ 52 ≡ ancestor_of n t

module _ (n t own u : ℕ) (h64 : n < 2 ^ 64) (v : Valid n) (l : t ≤ res_of n) (eo : own ≡ res_of n) (eu : u ≡ 8 ^ (15 - t)) where
  t_le : t ≤ 15
  t_le = omega arith

  u_pos : 1 ≤ u
  u_pos = omega (arith, eights_pos (15 - t))

  -- the digits below t
  rest : run n t (15 - t) ≡ n % u
  unfolding run
  rest = let e : t + (15 - t) ≡ 15 = omega arith in rw (e, div-one n, eu)

  whole : n ≡ 2 ^ 59 + own * 2 ^ 52 + base_of n * 2 ^ 45 + (run n 0 t * u + n % u)
  whole =
      let s : n % 2 ^ 45 ≡ run n 0 t * u + n % u = low_split n t t_le ∙ rw (rest, eu) in
      rw (eo, ← s) (sum n h64 v.top v.mode v.reserved)

  cut_le : n % u ≤ n
  cut_le = mod-le n u

  own_le : own ≤ 15
  own_le = rw eo (omega arith)

  -- the cut number is below the next multiple of 2 ^ 45, and 2 ^ 64 is one
  cut_fits : n - n % u + (u - 1) < 2 ^ 64
  cut_fits =
      let r = run_lt n 0 t in
      let m : run n 0 t * u + (u - 1) < 8 ^ t * u = digits_lt r (omega (arith, u_pos)) in
      let e : 8 ^ t * u ≡ 2 ^ 45 = ap (λ (z : ℕ). 8 ^ t * z) eu ∙ sym (pow-add 8 t (15 - t)) ∙ ap (λ (k : ℕ). 8 ^ k) add in
      lin n own (base_of n) (run n 0 t * u) (n % u) u whole own_le (omega arith) (rw e at m)
    where
      add : t + (15 - t) ≡ 15
      add = omega arith

      lin : (n own b x r u : ℕ) → n ≡ 2 ^ 59 + own * 2 ^ 52 + b * 2 ^ 45 + (x + r) → own ≤ 15 → b ≤ 127 → x + (u - 1) < 2 ^ 45 → n - r + (u - 1) < 2 ^ 64
      lin n own b x r u e h g f = omega arith

  cut_total : n - n % u + (u - 1) - (own - t) * 2 ^ 52 ≡ ancestor_of n t
  unfolding ancestor_of pack
  cut_total = rw (length_used n t, octal_used n t t_le, ← eu) (lin n own t (base_of n) (run n 0 t * u) (n % u) u (omega arith) u_pos whole)
    where
      lin : (n own t b x r u : ℕ) → t ≤ own → 1 ≤ u → n ≡ 2 ^ 59 + own * 2 ^ 52 + b * 2 ^ 45 + (x + r) → n - r + (u - 1) - (own - t) * 2 ^ 52 ≡ 2 ^ 59 + t * 2 ^ 52 + b * 2 ^ 45 + (x + (u - 1))
      lin n own t b x r u h p e = omega arith

  span_le : (own - t) * 2 ^ 52 ≤ n - n % u + (u - 1)
  span_le = lin n own t (base_of n) (run n 0 t * u) (n % u) u whole
    where
      lin : (n own t b x r u : ℕ) → n ≡ 2 ^ 59 + own * 2 ^ 52 + b * 2 ^ 45 + (x + r) → (own - t) * 2 ^ 52 ≤ n - r + (u - 1)
      lin n own t b x r u e = omega arith

  pub steps : Steps n t own u
  steps = record { one = u_pos; less = cut_le; fits = cut_fits; above = span_le; total = cut_total }

-- the same where the number is that of a cell c, and k that of its target
pub cut : (c t own u n k : ℕ) → n < 2 ^ 64 → Valid c → t ≤ res_of c → n ≡ c → own ≡ res_of n → u ≡ 8 ^ (15 - t) → k ≡ t → Steps n k own u × (n - n % u + (u - 1) - (own - k) * 2 ^ 52 ≡ ancestor_of c t)
cut c t own u n k h v l en eo eu ek =
    let s : Steps n k own u = steps n k own u h (rw en v) (rw (en, ek) l) eo (rw ek eu) in
    (s, s.total ∙ ap₂ ancestor_of en ek)
