-- Whole numbers for `omega`. A whole number z is its plus part less its minus part, two naturals that `omega` reads: `pp z`, `np z`.
-- Each operation of `lib.IntN` has one law between the parts, and `parts_same` goes back from the parts to an equation of whole numbers.
-- Assumes nothing.
use mathlib.Core.Path.{◌≡◌, refl, sym, ap, ◌∙◌, subst}
use mathlib.Core.Bool.{Bool, true, false, not, cond}
use mathlib.Core.Logic.{◌⊎◌, inl, inr, ◌↔◌}
use Prim.Native.Nat.{ℕ, zero, suc, ◌+◌, ◌*◌, ◌-◌, ◌<◌, ◌≤◌, min, max}
use native.Mathlib.Omega.{arith}
use native.Mathlib.Nat.{mul-zero}
use lib.IntN.{ℤ, pos, negsuc, neg_ℤ, nat_abs, sub_ℕ, ◌+ℤ◌, ◌*ℤ◌}
use lib.Dec.{T, eqb→eq, eqb_refl, ltb, ltb→lt, nltb→le, leb→le, le→leb, nleb→lt}
use lib.Signed.{le_z}
use Rattle.plane.specs.Points.{lesser, greater, equal}

-- the plus part and the minus part; one of the two is 0
abbrev pub pp : ℤ → ℕ
pp (pos n) = n
pp (negsuc n) = 0

abbrev pub np : ℤ → ℕ
np (pos n) = 0
np (negsuc n) = suc n

-- two numbers are equal where their parts differ by the same
pub parts_same : (x y : ℤ) → pp x + np y ≡ pp y + np x → x ≡ y
parts_same (pos m) (pos n) h = ap pos (omega arith)
parts_same (pos m) (negsuc n) h = absurd (omega arith)
parts_same (negsuc m) (pos n) h = absurd (omega arith)
parts_same (negsuc m) (negsuc n) h = ap negsuc (omega arith)

pub parts : (x y : ℤ) → x ≡ y → pp x + np y ≡ pp y + np x
parts x y e = rw e

cond_parts : (c : Bool) (a b : ℕ) → (T c → a < b) → (T (not c) → b ≤ a) → pp (cond c (negsuc (b - suc a)) (pos (a - b))) + b ≡ np (cond c (negsuc (b - suc a)) (pos (a - b))) + a
cond_parts true a b f g = omega (arith, f tt)
cond_parts false a b f g = omega (arith, g tt)

pub sub_parts : (a b : ℕ) → pp (sub_ℕ a b) + b ≡ np (sub_ℕ a b) + a
sub_parts a b = cond_parts (ltb a b) a b (ltb→lt a b) (nltb→le a b)

pub add_parts : (x y : ℤ) → pp (x +ℤ y) + (np x + np y) ≡ np (x +ℤ y) + (pp x + pp y)
add_parts (pos a) (pos b) = omega arith
add_parts (pos a) (negsuc b) = omega (arith, sub_parts a (suc b))
add_parts (negsuc a) (pos b) = omega (arith, sub_parts b (suc a))
add_parts (negsuc a) (negsuc b) = omega arith

pub neg_parts : (x : ℤ) → (pp (neg_ℤ x) ≡ np x) × (np (neg_ℤ x) ≡ pp x)
neg_parts (pos zero) = (refl, refl)
neg_parts (pos (suc n)) = (refl, refl)
neg_parts (negsuc n) = (refl, refl)

pub mul_parts : (k : ℕ) (x : ℤ) → (pp (pos k *ℤ x) ≡ k * pp x) × (np (pos k *ℤ x) ≡ k * np x)
mul_parts k (pos n) = (refl, omega arith)
mul_parts k (negsuc n) = ((neg_parts (pos (k * suc n))).0 ∙ sym (mul-zero k), (neg_parts (pos (k * suc n))).1)

pub abs_parts : (x : ℤ) → nat_abs x ≡ pp x + np x
abs_parts (pos n) = omega arith
abs_parts (negsuc n) = omega arith

pub sign : (x : ℤ) → (np x ≡ 0) ⊎ (pp x ≡ 0)
sign (pos n) = inl refl
sign (negsuc n) = inr refl

-- the order, as naturals
pub le_parts : (x y : ℤ) → T (le_z x y) → pp x + np y ≤ pp y + np x
le_parts (pos a) (pos b) t = omega (arith, leb→le a b t)
le_parts (pos a) (negsuc b) t = absurd t
le_parts (negsuc a) (pos b) t = omega arith
le_parts (negsuc a) (negsuc b) t = omega (arith, leb→le b a t)

pub gt_parts : (x y : ℤ) → T (not (le_z x y)) → pp y + np x < pp x + np y
gt_parts (pos a) (pos b) t = omega (arith, nleb→lt a b t)
gt_parts (pos a) (negsuc b) t = omega arith
gt_parts (negsuc a) (pos b) t = absurd t
gt_parts (negsuc a) (negsuc b) t = omega (arith, nleb→lt b a t)

pub parts_le : (x y : ℤ) → pp x + np y ≤ pp y + np x → T (le_z x y)
parts_le (pos a) (pos b) h = le→leb a b (omega arith)
parts_le (pos a) (negsuc b) h = absurd (omega arith)
parts_le (negsuc a) (pos b) h = tt
parts_le (negsuc a) (negsuc b) h = le→leb b a (omega arith)

-- a difference of two naturals, shut, so that `simp diffs` takes an expression over differences to one difference
unfoldable pub diff : ℕ → ℕ → ℤ
diff a b = sub_ℕ a b

pub whole : (x : ℤ) → diff (pp x) (np x) ≡ x
unfolding diff
whole x = parts_same (sub_ℕ (pp x) (np x)) x (omega (arith, sub_parts (pp x) (np x)))

pub diff_parts : (a b : ℕ) → pp (diff a b) + b ≡ np (diff a b) + a
unfolding diff
diff_parts a b = sub_parts a b

-- two differences are equal exactly where the cross sums are: `simp diffs` takes an equation of whole numbers to one of naturals, for `omega`
pub diff_iff : (a b c d : ℕ) → (diff a b ≡ diff c d) ↔ (a + d ≡ c + b)
diff_iff a b c d = (
  λ e. omega (arith, parts (diff a b) (diff c d) e, diff_parts a b, diff_parts c d),
  λ h. parts_same (diff a b) (diff c d) (omega (arith, diff_parts a b, diff_parts c d)),
)

pub diff_le : (a b c d : ℕ) → T (le_z (diff a b) (diff c d)) ↔ (a + d ≤ c + b)
diff_le a b c d = (
  λ t. omega (arith, le_parts (diff a b) (diff c d) t, diff_parts a b, diff_parts c d),
  λ h. parts_le (diff a b) (diff c d) (omega (arith, diff_parts a b, diff_parts c d)),
)

pub diff_pos : (n : ℕ) → pos n ≡ diff n 0
diff_pos n = sym (whole (pos n))

pub diff_negsuc : (n : ℕ) → negsuc n ≡ diff 0 (suc n)
diff_negsuc n = sym (whole (negsuc n))

pub diff_add : (a b c d : ℕ) → diff a b +ℤ diff c d ≡ diff (a + c) (b + d)
diff_add a b c d =
    parts_same (diff a b +ℤ diff c d) (diff (a + c) (b + d))
    (omega (arith, add_parts (diff a b) (diff c d), diff_parts a b, diff_parts c d, diff_parts (a + c) (b + d)))

pub diff_neg : (a b : ℕ) → neg_ℤ (diff a b) ≡ diff b a
diff_neg a b = parts_same (neg_ℤ (diff a b)) (diff b a) (omega (arith, neg_parts (diff a b), diff_parts a b, diff_parts b a))

pub diff_mul : (k a b : ℕ) → diff k 0 *ℤ diff a b ≡ diff (k * a) (k * b)
diff_mul k a b =
    rw (whole (pos k))
    (parts_same (pos k *ℤ diff a b) (diff (k * a) (k * b))
    (omega (arith, mul_parts k (diff a b), ap (λ (n : ℕ). k * n) (diff_parts a b), diff_parts (k * a) (k * b))))

cond_lesser : (c : Bool) (x y : ℤ) → (T c → pp x + np y ≤ pp y + np x) → (T (not c) → pp y + np x < pp x + np y) → pp (cond c x y) + (np x + np y) ≡ np (cond c x y) + min (pp x + np y) (pp y + np x)
cond_lesser true x y f g = omega (arith, f tt)
cond_lesser false x y f g = omega (arith, g tt)

pub lesser_parts : (x y : ℤ) → pp (lesser x y) + (np x + np y) ≡ np (lesser x y) + min (pp x + np y) (pp y + np x)
lesser_parts x y = cond_lesser (le_z x y) x y (le_parts x y) (gt_parts x y)

pub diff_lesser : (a b c d : ℕ) → cond (le_z (diff a b) (diff c d)) (diff a b) (diff c d) ≡ diff (min (a + d) (c + b)) (b + d)
diff_lesser a b c d =
    parts_same (lesser (diff a b) (diff c d)) (diff (min (a + d) (c + b)) (b + d))
    (omega (arith, lesser_parts (diff a b) (diff c d), diff_parts a b, diff_parts c d, diff_parts (min (a + d) (c + b)) (b + d)))

cond_greater : (c : Bool) (x y : ℤ) → (T c → pp x + np y ≤ pp y + np x) → (T (not c) → pp y + np x < pp x + np y) → pp (cond c y x) + (np x + np y) ≡ np (cond c y x) + max (pp x + np y) (pp y + np x)
cond_greater true x y f g = omega (arith, f tt)
cond_greater false x y f g = omega (arith, g tt)

pub greater_parts : (x y : ℤ) → pp (greater x y) + (np x + np y) ≡ np (greater x y) + max (pp x + np y) (pp y + np x)
greater_parts x y = cond_greater (le_z x y) x y (le_parts x y) (gt_parts x y)

pub diff_greater : (a b c d : ℕ) → cond (le_z (diff a b) (diff c d)) (diff c d) (diff a b) ≡ diff (max (a + d) (c + b)) (b + d)
diff_greater a b c d =
    parts_same (greater (diff a b) (diff c d)) (diff (max (a + d) (c + b)) (b + d))
    (omega (arith, greater_parts (diff a b) (diff c d), diff_parts a b, diff_parts c d, diff_parts (max (a + d) (c + b)) (b + d)))

pub ruleset diffs = (diff_add, diff_neg, diff_mul, diff_pos, diff_negsuc, diff_lesser, diff_greater, diff_iff, diff_le)

pub equal_eq : (x y : ℤ) → T (equal x y) → x ≡ y
equal_eq (pos a) (pos b) t = ap pos (eqb→eq a b t)
equal_eq (pos a) (negsuc b) t = absurd t
equal_eq (negsuc a) (pos b) t = absurd t
equal_eq (negsuc a) (negsuc b) t = ap negsuc (eqb→eq a b t)

pub eq_equal : (x y : ℤ) → x ≡ y → T (equal x y)
eq_equal x y e = subst (λ (z : ℤ). T (equal x z)) e (self x)
  where
    self : (x : ℤ) → T (equal x x)
    self (pos a) = eqb_refl a
    self (negsuc a) = eqb_refl a
