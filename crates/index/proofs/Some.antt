-- What `some` means. Assumes nothing.
use Rattle.std.proofs.Common.{◌≡◌, ℕ, zero, suc, ◌≤◌, Bool, true, false, ◌||◌, refl, ap, ◌∙◌, ⊎_elim, true≢false, le_refl, le_of_suc-le-suc, eq-or-lt_of_le, arith}
use native.Mathlib.Nat.{le_step}
use Rattle.index.specs.Check.{some}

pub both_off : (a b : Bool) → a || b ≡ false → (a ≡ false) × (b ≡ false)
both_off true b e = absurd (true≢false e)
both_off false b e = (refl, e)

-- where it fails the test fails at each place, and the other way round
pub some_off : (f : ℕ → Bool) (k r : ℕ) → some f k ≡ false → 1 ≤ r → r ≤ k → f r ≡ false
unfolding some
some_off f zero r e g h = absurd (g_le g h)
  where
    g_le : 1 ≤ r → r ≤ 0 → ⊥
    g_le g h = omega arith
some_off f (suc k) r e g h =
    ⊎_elim (λ (q : r ≡ suc k). ap f q ∙ (both_off (some f k) (f (suc k)) e).1) (λ l. some_off f k r (both_off (some f k) (f (suc k)) e).0 g (le_of_suc-le-suc l))
    (eq-or-lt_of_le h)

pub off_some : (f : ℕ → Bool) (k : ℕ) → ((r : ℕ) → 1 ≤ r → r ≤ k → f r ≡ false) → some f k ≡ false
unfolding some
off_some f zero h = refl
off_some f (suc k) h = rw (off_some f k (λ r g l. h r g (le_step l)), h (suc k) (omega arith) (le_refl _))
