-- What is packed of a base cell and digits 0 to 6 has them, also where refusal 7 names it. Assumes nothing.
use Rattle.std.proofs.Common.{◌≡◌, ℕ, ◌+◌, ◌-◌, ◌*◌, ◌/◌, ◌%◌, ◌^◌, ◌<◌, ◌≤◌, List, length, sym, ap, ◌∙◌, true≢false, mod-lt, arith}
use Rattle.plane.specs.Strings.{Digits}
use Rattle.index.specs.Layout.{digit, res_of, base_of, is_pentagonal, among}
use Rattle.index.specs.View.{used, pack, Fit}
use Rattle.index.proofs.First.{digit_low}
use Rattle.index.proofs.Sum.{sum, sum_base, sum_res}
use Rattle.index.proofs.View.{pack_used, pack_base, pack_res, pack_fits, pack_valid}
use Rattle.index.proofs.Redrawn.{used_same}

-- a digit is one of the low 45 bits
digit_same : (n y s : ℕ) → y % 2 ^ 45 ≡ n % 2 ^ 45 → 1 ≤ s → s ≤ 15 → digit y s ≡ digit n s
digit_same n y s e g l =
    digit_low y (3 * (15 - s)) (omega arith) ∙ ap (λ (x : ℕ). x / 2 ^ (3 * (15 - s)) % 8) e ∙ sym (digit_low n (3 * (15 - s)) (omega arith))

module _ (b : ℕ) (ds : List ℕ) (hb : b ≤ 127) (short : length ds ≤ 15) (digits : Digits ds) where
  -- in base cell 0, which is no pentagon's
  pub bare : Fit 0 ds
  unfolding is_pentagonal among
  bare = record { base = omega arith; short = short; digits = digits; kept = λ q e. true≢false (sym q) }

  abbrev p : ℕ
  p = pack 0 ds

  moved : pack b ds ≡ p + b * 2 ^ 45
  unfolding pack
  moved = omega arith

  whole : p ≡ 2 ^ 59 + length ds * 2 ^ 52 + 0 * 2 ^ 45 + p % 2 ^ 45
  whole =
      let v = pack_valid 0 ds bare in
      let s = sum p (omega (arith, pack_fits 0 ds bare)) v.top v.mode v.reserved in
      rw (pack_res 0 ds bare, pack_base 0 ds bare) at s

  lin : (x q k l : ℕ) → x ≡ q + b * 2 ^ 45 → q ≡ 2 ^ 59 + k * 2 ^ 52 + 0 * 2 ^ 45 + l → x ≡ 2 ^ 59 + k * 2 ^ 52 + b * 2 ^ 45 + l
  lin x q k l e f = omega arith

  fields : pack b ds ≡ 2 ^ 59 + length ds * 2 ^ 52 + b * 2 ^ 45 + p % 2 ^ 45
  fields = lin (pack b ds) p (length ds) (p % 2 ^ 45) moved whole

  l_lt : p % 2 ^ 45 < 2 ^ 45
  l_lt = mod-lt p (omega arith)

  low : pack b ds % 2 ^ 45 ≡ p % 2 ^ 45
  low = ap (λ (x : ℕ). x % 2 ^ 45) moved ∙ over p b
    where
      over : (x y : ℕ) → (x + y * 2 ^ 45) % 2 ^ 45 ≡ x % 2 ^ 45
      over x y = omega arith

  pub loose_used : used (pack b ds) (length ds) ≡ ds
  loose_used = used_same p (pack b ds) (length ds) (λ s g l. digit_same p (pack b ds) s low g (omega arith)) ∙ pack_used 0 ds bare

  pub loose_rest : (s : ℕ) → length ds < s → s ≤ 15 → digit (pack b ds) s ≡ 7
  loose_rest s g l =
      let r = (pack_valid 0 ds bare).rest in
      digit_same p (pack b ds) s low (omega arith) l ∙ (rw (pack_res 0 ds bare) at r) s g l

  pub loose_upper : pack b ds / 2 ^ 45 ≡ 2 ^ 14 + length ds * 2 ^ 7 + b
  loose_upper = ap (λ (x : ℕ). x / 2 ^ 45) fields ∙ at45 (length ds) (p % 2 ^ 45) l_lt
    where
      at45 : (k l : ℕ) → l < 2 ^ 45 → (2 ^ 59 + k * 2 ^ 52 + b * 2 ^ 45 + l) / 2 ^ 45 ≡ 2 ^ 14 + k * 2 ^ 7 + b
      at45 k l h = omega arith

  pub loose_res : res_of (pack b ds) ≡ length ds
  loose_res = ap res_of fields ∙ sum_res (length ds) b (p % 2 ^ 45) short hb l_lt

  pub loose_base : base_of (pack b ds) ≡ b
  loose_base = ap base_of fields ∙ sum_base (length ds) b (p % 2 ^ 45) short hb l_lt
