-- A valid number is its base cell and its used digits, packed; and what is packed of a base cell and digits that are right is valid and
-- has them. Assumes nothing.
use Rattle.std.proofs.Common.{◌≡◌, ℕ, zero, suc, ◌+◌, ◌-◌, ◌*◌, ◌/◌, ◌%◌, ◌^◌, ◌<◌, ◌≤◌, List, [], ◌∷◌, length, sym, refl, ap, ◌∙◌, subst, ⊎_elim, le_refl, le_of_suc-le-suc, mod-lt, eq-or-lt_of_le, pow-suc, suc-ne-zero, div-one, arith, pow-add}
use native.Mathlib.Nat.{suc_inj, le_step}
use lib.Arith.{mod-mul, digits_div, digits_mod, digits_lt}
use Rattle.plane.specs.Strings.{Digits}
use Rattle.index.specs.Layout.{digit, top_bit, mode_of, reserved_of, res_of, base_of, first_of, Valid}
use Rattle.index.specs.View.{used, octal, pack, first, Fit}
use Rattle.index.proofs.Sum.{sum, sum_base, sum_res, sum_low, sum_reserved, sum_mode, sum_top, sum_fits}
use Rattle.index.proofs.Runs.{place, eights_pos, run, octal_used, length_used, sevens, sevens_back}

-- the 45 digit bits are the run of the digits to r, above the run of the others
pub low_split : (n r : ℕ) → r ≤ 15 → n % 2 ^ 45 ≡ run n 0 r * 8 ^ (15 - r) + run n r (15 - r)
unfolding run
low_split n r h =
    let e : r + (15 - r) ≡ 15 = omega arith in
    let p : 8 ^ r * 8 ^ (15 - r) ≡ 2 ^ 45 = sym (pow-add 8 r (15 - r)) ∙ ap (λ (k : ℕ). 8 ^ k) e in
    let z : 0 + r ≡ r = omega arith in
    let m = mod-mul n {m = 8 ^ r} {c = 8 ^ (15 - r)} (eights_pos r) (eights_pos (15 - r)) in
    rw (e, z, place (15 - r), div-one n) (rw p at m)

pub run_lt : (n r i : ℕ) → run n r i < 8 ^ i
unfolding run
run_lt n r i = mod-lt _ (eights_pos i)

pub small_used : (n k : ℕ) → ((r : ℕ) → 1 ≤ r → r ≤ k → digit n r ≤ 6) → Digits (used n k)
unfolding used
small_used n zero h = tt
small_used n (suc k) h =
    let l = h (suc k) (omega arith) (le_refl _) in
    (omega arith, small_used n k (λ r g m. h r g (le_step m)))

used_small : (n k : ℕ) → Digits (used n k) → (r : ℕ) → 1 ≤ r → r ≤ k → digit n r ≤ 6
unfolding used
used_small n zero s r g h = absurd (none r g h)
  where
    none : (r : ℕ) → 1 ≤ r → r ≤ 0 → ⊥
    none r g h = omega arith
used_small n (suc k) s r g h =
    ⊎_elim (λ (q : r ≡ suc k). subst (λ (x : ℕ). digit n x ≤ 6) (sym q) (le_of_suc-le-suc s.0))
    (λ l. used_small n k s.1 r g (le_of_suc-le-suc l)) (eq-or-lt_of_le h)

pub first_used : (n k : ℕ) → first (used n k) ≡ first_of n k
unfolding first used first_of
first_used n zero = refl
first_used n (suc k) = rw (first_used n k)

-- a number with the right fields and unused digits, whatever its used digits
pub packed_of : (n : ℕ) → n < 2 ^ 64 → top_bit n ≡ 0 → mode_of n ≡ 1 → reserved_of n ≡ 0 → ((r : ℕ) → res_of n < r → r ≤ 15 → digit n r ≡ 7) → pack (base_of n) (used n (res_of n)) ≡ n
unfolding pack
packed_of n h t m v q =
    let l : res_of n ≤ 15 = omega arith in
    let s = low_split n (res_of n) l in
    let o = sevens n (res_of n) (15 - res_of n) (omega arith) (λ j g e. q j g (omega arith)) in
    let e : run n 0 (res_of n) * 8 ^ (15 - res_of n) + (8 ^ (15 - res_of n) - 1) ≡ n % 2 ^ 45 =
    ap (λ (x : ℕ). run n 0 (res_of n) * 8 ^ (15 - res_of n) + x) (sym o) ∙ sym s in
    rw (length_used n (res_of n), octal_used n (res_of n) l, e) (sym (sum n h t m v))

-- a valid number is its base cell and its used digits, packed
pub packed : (n : ℕ) → n < 2 ^ 64 → Valid n → pack (base_of n) (used n (res_of n)) ≡ n
packed n h v = packed_of n h v.top v.mode v.reserved v.rest

pub fit : (n : ℕ) → Valid n → Fit (base_of n) (used n (res_of n))
fit n v =
    record {
      base = v.base;
      short = rw length_used (omega arith);
      digits = small_used n (res_of n) v.small;
      kept = rw first_used v.kept;
    }

-- digits below 8 are below 8 ^ how many
pub octal_lt : (ds : List ℕ) → Digits ds → octal ds < 8 ^ length ds
unfolding octal
octal_lt [] s = omega arith
octal_lt (d ∷ ds) s =
    let l = s.0 in
    omega (arith, octal_lt ds s.1, pow-suc 8 (length ds))

-- lists of digits with one number and one length are one list; the first list's digits are only known to be below 8
pub same_digits : (n k : ℕ) (ds : List ℕ) → length ds ≡ k → Digits ds → octal (used n k) ≡ octal ds → used n k ≡ ds
unfolding octal used
same_digits n zero [] e s q = refl
same_digits n zero (d ∷ ds) e s q = absurd (suc-ne-zero _ e)
same_digits n (suc k) [] e s q = absurd (suc-ne-zero k (sym e))
same_digits n (suc k) (d ∷ ds) e s q =
    let l : digit n (suc k) < 8 = mod-lt _ (omega arith) in
    let m = s.0 in
    let a : digit n (suc k) ≡ d = omega arith in
    let b : octal (used n k) ≡ octal ds = omega arith in
    rw (a, same_digits n k ds (suc_inj e) s.1 b)

-- what is packed of a base cell and digits that are right
module _ (b : ℕ) (ds : List ℕ) (o : Fit b ds) where
  low_fits : octal ds * 8 ^ (15 - length ds) + (8 ^ (15 - length ds) - 1) < 2 ^ 45
  low_fits =
      let u : ℕ = 15 - length ds in
      let h = o.short in
      let e : length ds + u ≡ 15 = omega arith in
      let p : 8 ^ length ds * 8 ^ u ≡ 2 ^ 45 = sym (pow-add 8 (length ds) u) ∙ ap (λ (k : ℕ). 8 ^ k) e in
      let l : octal ds * 8 ^ u + (8 ^ u - 1) < 8 ^ length ds * 8 ^ u = digits_lt (octal_lt ds o.digits) (omega (arith, eights_pos u)) in
      rw p at l

  base_fits : b ≤ 127
  base_fits = let h = o.base in omega arith

  pub pack_res : res_of (pack b ds) ≡ length ds
  unfolding pack
  pack_res = sum_res _ _ _ o.short base_fits low_fits

  pub pack_base : base_of (pack b ds) ≡ b
  unfolding pack
  pack_base = sum_base _ _ _ o.short base_fits low_fits

  pub pack_fits : pack b ds < 2 ^ 60
  unfolding pack
  pack_fits = sum_fits _ _ _ o.short base_fits low_fits

  -- the two runs of its digits
  runs : (run (pack b ds) 0 (length ds) ≡ octal ds) × (run (pack b ds) (length ds) (15 - length ds) ≡ 8 ^ (15 - length ds) - 1)
  unfolding pack
  runs =
      let u : ℕ = 15 - length ds in
      let n : ℕ = pack b ds in
      let l : n % 2 ^ 45 ≡ octal ds * 8 ^ u + (8 ^ u - 1) = sum_low _ _ _ o.short base_fits low_fits in
      let e : run n 0 (length ds) * 8 ^ u + run n (length ds) u ≡ octal ds * 8 ^ u + (8 ^ u - 1) = sym (low_split n (length ds) o.short) ∙ l in
      let s : 8 ^ u - 1 < 8 ^ u = omega (arith, eights_pos u) in (
        sym (digits_div (run n 0 (length ds)) (run_lt n (length ds) u)) ∙ ap (λ (x : ℕ). x / 8 ^ u) e ∙ digits_div (octal ds) s,
        sym (digits_mod (run n 0 (length ds)) (run_lt n (length ds) u)) ∙ ap (λ (x : ℕ). x % 8 ^ u) e ∙ digits_mod (octal ds) s,
      )

  pub pack_used : used (pack b ds) (length ds) ≡ ds
  pack_used = same_digits (pack b ds) (length ds) ds refl o.digits (octal_used (pack b ds) (length ds) o.short ∙ runs.0)

  tops : (top_bit (pack b ds) ≡ 0) × (mode_of (pack b ds) ≡ 1) × (reserved_of (pack b ds) ≡ 0)
  unfolding pack
  tops = (sum_top _ _ _ o.short base_fits low_fits, sum_mode _ _ _ o.short base_fits low_fits, sum_reserved _ _ _ o.short base_fits low_fits)

  pub pack_valid : Valid (pack b ds)
  pack_valid =
      let n : ℕ = pack b ds in
      let h = o.short in
      record {
        top = tops.0;
        mode = tops.1;
        reserved = tops.2;
        base = rw pack_base o.base;
        small = rw pack_res (used_small n (length ds) (rw pack_used o.digits));
        rest = rw pack_res (λ r g l. sevens_back n (length ds) (15 - length ds) (omega arith) runs.1 r g (omega arith));
        kept = rw (pack_base, pack_res, ← (first_used n (length ds)), pack_used) o.kept;
      }
