-- A test at each number below n, computed at once, and carried to each. Assumes nothing.
use mathlib.Core.Path.{◌≡◌, subst, sym}
use mathlib.Core.Bool.{Bool, true, false, ◌&&◌}
use mathlib.Core.Logic.{⊎_elim}
use Prim.Native.Nat.{ℕ, zero, suc, ◌<◌, ◌≤◌}
use native.Mathlib.Nat.{le_of_suc-le-suc, eq-or-lt_of_le, not-suc-le-zero}
use lib.Dec.{T, eqb, eqb→eq, leb, leb→le, ltb, ltb→lt}

pub left : (a b : Bool) → T (a && b) → T a
left true true t = tt
left true false t = tt
left false true t = t
left false false t = t

pub right : (a b : Bool) → T (a && b) → T b
right true true t = tt
right true false t = t
right false true t = tt
right false false t = t

pub both : (a b : Bool) → T a → T b → T (a && b)
both true true x y = tt
both true false x y = y
both false b x y = absurd x

abbrev pub every : ℕ → (ℕ → Bool) → Bool
every zero f = true
every (suc n) f = f n && every n f

pub at : (n : ℕ) (f : ℕ → Bool) → T (every n f) → (k : ℕ) → k < n → T (f k)
at zero f t k h = absurd (not-suc-le-zero h)
at (suc n) f t k h =
    ⊎_elim (λ (e : k ≡ n). subst (λ (m : ℕ). T (f m)) (sym e) (left (f n) (every n f) t))
    (λ (l : k < n). at n f (right (f n) (every n f) t) k l)
    (eq-or-lt_of_le (le_of_suc-le-suc h))

-- two functions that are equal at each number below n, and one that stays below m or at most m there
pub at_eq : (n : ℕ) (f g : ℕ → ℕ) → T (every n (λ k. eqb (f k) (g k))) → (k : ℕ) → k < n → f k ≡ g k
at_eq n f g t k h = eqb→eq (f k) (g k) (at n (λ (k : ℕ). eqb (f k) (g k)) t k h)

pub at_lt : (n m : ℕ) (f : ℕ → ℕ) → T (every n (λ k. ltb (f k) m)) → (k : ℕ) → k < n → f k < m
at_lt n m f t k h = ltb→lt (f k) m (at n (λ (k : ℕ). ltb (f k) m) t k h)

pub at_le : (n m : ℕ) (f : ℕ → ℕ) → T (every n (λ k. leb (f k) m)) → (k : ℕ) → k < n → f k ≤ m
at_le n m f t k h = leb→le (f k) m (at n (λ (k : ℕ). leb (f k) m) t k h)
