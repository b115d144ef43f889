-- Strings of digits put one before the other, and the used digits of a number as such strings. Assumes nothing.
use mathlib.Core.Path.{◌≡◌, refl, sym, ap, ◌∙◌, subst}
use mathlib.Core.Bool.{false, cond}
use mathlib.Core.Logic.{⊎_elim, ◌⊎◌}
use mathlib.Core.List.{List, [], ◌∷◌, ◌++◌}
use Prim.Native.Nat.{ℕ, zero, suc, ◌+◌, ◌-◌, ◌*◌, ◌^◌, ◌≤◌, ◌<◌}
use native.Mathlib.Nat.{pow-suc, zero-add, add-zero, add-suc, eq-zero-or-pos, eq-or-lt_of_le, le_of_suc-le-suc, mul-lt-mul_of_pos_right}
use native.Mathlib.Numerals.{add-one}
use native.Mathlib.Omega.{arith}
use lib.Dec.{eqb}
use lib.ListN.{length, get_or, drop}
use borrow.Author.Tests.{ne_eqb}
use Rattle.index.specs.Layout.{digit}
use Rattle.index.specs.View.{used, octal, pack, first}
use Rattle.plane.specs.Strings.{Digits}
use Rattle.index.proofs.Runs.{eights_pos}
use Rattle.descent.specs.Positions.{seg}

pub octal_append : (xs ys : List ℕ) → octal (xs ++ ys) ≡ octal ys * 8 ^ length xs + octal xs
unfolding octal
octal_append [] ys = omega arith
octal_append (x ∷ xs) ys = rw (octal_append xs ys, pow-suc 8 (length xs)) (omega arith)

pub digits_append : (xs ys : List ℕ) → Digits xs → Digits ys → Digits (xs ++ ys)
digits_append [] ys s t = t
digits_append (x ∷ xs) ys s t = (s.0, digits_append xs ys s.1 t)

pub digits_front : (xs ys : List ℕ) → Digits (xs ++ ys) → Digits xs
digits_front [] ys s = tt
digits_front (x ∷ xs) ys s = (s.0, digits_front xs ys s.1)

-- a coarser digit that is not 0 comes first
pub first_append : (xs ys : List ℕ) → first (xs ++ ys) ≡ cond (eqb (first ys) 0) (first xs) (first ys)
unfolding first
first_append [] ys = go (first ys)
  where
    go : (f : ℕ) → f ≡ cond (eqb f 0) 0 f
    go f = ⊎_elim (λ (z : f ≡ 0). rw z) (λ l. rw (ne_eqb f 0 (omega arith))) (eq-zero-or-pos f)
first_append (x ∷ xs) ys = rw (first_append xs ys) (go (first ys) (eq-zero-or-pos (first ys)))
  where
    go : (f : ℕ) → (f ≡ 0) ⊎ (0 < f) →
        cond (eqb (cond (eqb f 0) (first xs) f) 0) x (cond (eqb f 0) (first xs) f) ≡ cond (eqb f 0) (cond (eqb (first xs) 0) x (first xs)) f
    go f = ⊎_elim (λ (z : f ≡ 0). rw z) (λ (l : 0 < f). let e : eqb f 0 ≡ false = ne_eqb f 0 (omega arith) in rw (e, e))

-- with one base cell and one length the numbers of the digits decide the order
pub pack_mono : (b : ℕ) (xs ys : List ℕ) → length xs ≡ length ys → octal xs < octal ys → pack b xs < pack b ys
unfolding pack
pack_mono b xs ys e h =
    let l : octal xs * 8 ^ (15 - length ys) < octal ys * 8 ^ (15 - length ys) = mul-lt-mul_of_pos_right h (eights_pos (15 - length ys)) in
    rw e (omega arith)

pub used_tail : (xs ys : List ℕ) (y j k : ℕ) → j ≡ length xs + k → used y j ≡ xs ++ ys → used y k ≡ ys
unfolding used
used_tail [] ys y j k e h = subst (λ (z : ℕ). used y z ≡ ys) (e ∙ zero-add k) h
used_tail (x ∷ xs) ys y zero k e h = none e
  where
    none : 0 ≡ suc (length xs) + k → used y k ≡ ys
    none e = absurd (let z : ⊥ = omega arith in z)
used_tail (x ∷ xs) ys y (suc j) k e h = used_tail xs ys y j k (omega arith) (ap (λ (l : List ℕ). drop 1 l) h)

-- equal strings of used digits are equal digits, and the other way round
pub used_digit : (y n k : ℕ) → used y k ≡ used n k → (r : ℕ) → 1 ≤ r → r ≤ k → digit y r ≡ digit n r
unfolding used
used_digit y n zero e r l u = absurd (let z : ⊥ = omega arith in z)
used_digit y n (suc k) e r l u =
    ⊎_elim
    (λ (q : r ≡ suc k). subst (λ (z : ℕ). digit y z ≡ digit n z) (sym q) (ap (λ (s : List ℕ). get_or s 0 0) e))
    (λ (g : r < suc k). used_digit y n k (ap (λ (s : List ℕ). drop 1 s) e) r l (le_of_suc-le-suc g))
    (eq-or-lt_of_le u)

pub digit_used : (y n k : ℕ) → ((r : ℕ) → 1 ≤ r → r ≤ k → digit y r ≡ digit n r) → used y k ≡ used n k
unfolding used
digit_used y n zero h = refl
digit_used y n (suc k) h = rw (h (suc k) (omega arith) (omega arith), digit_used y n k (λ r l u. h r l (omega arith)))

pub length_seg : (y k m : ℕ) → length (seg y k m) ≡ m
unfolding seg
length_seg y k zero = refl
length_seg y k (suc m) = ap suc (length_seg y k m)

pub used_seg : (y k m : ℕ) → used y (k + m) ≡ seg y k m ++ used y k
unfolding used seg
used_seg y k zero = ap (used y) (add-zero k)
used_seg y k (suc m) = rw (add-suc, used_seg y k m, add-one)
