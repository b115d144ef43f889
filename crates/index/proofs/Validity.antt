-- A raw number is answered by the check exactly where it is valid. Assumes nothing.
use Rattle.std.proofs.Common.{◌≡◌, ℕ, ◌+◌, ◌-◌, ◌<◌, ◌≤◌, Bool, true, false, not, ◌&&◌, eqb, sym, refl, ap, subst, true≢false, mod-lt, arith, ltb-false, le-ltb, eq-eqb, ne_eqb, eqb-true}
use borrow.Author.Tests.{eqb-false, not-false}
use Rattle.index.specs.Layout.{top_bit, res_of, base_of, digit, Valid}
use Rattle.index.specs.Refusals.{Clear, answered}
use Rattle.index.specs.Check.{some_other, cell_rules, check_of}
use Rattle.index.proofs.Rules.{clear_answered, answered_clear}
use Rattle.index.proofs.Some.{some_off, off_some}

and_off : (a : Bool) (x : ℕ) → a && eqb x 1 ≡ false → a ≡ true → x ≡ 1 → ⊥
and_off true x e p = eqb-false x 1 e
and_off false x e p = absurd (true≢false (sym p))

off_and : (a : Bool) (x : ℕ) → (a ≡ true → x ≡ 1 → ⊥) → a && eqb x 1 ≡ false
off_and true x h = ne_eqb x 1 (h refl)
off_and false x h = refl

pub sevens_past : (n : ℕ) → some_other n ≡ false → (r : ℕ) → res_of n < r → r ≤ 15 → digit n r ≡ 7
sevens_past n h r g l =
    let q : res_of n + (r - res_of n) ≡ r = omega arith in
    subst (λ (x : ℕ). digit n x ≡ 7) q (eqb-true _ _ (not-false _ (some_off _ (15 - res_of n) (r - res_of n) h (omega arith) (omega arith))))

pub clear_valid : (n : ℕ) → Clear (cell_rules n) → Valid n
clear_valid n c =
    let t = eqb-false (top_bit n) 1 c.0 in
    let b = ltb-false 121 (base_of n) c.1.1.1.0 in
    record {
      top = omega arith;
      mode = eqb-true _ _ (not-false _ c.1.0);
      reserved = eqb-true _ _ (not-false _ c.1.1.0);
      base = b;
      small = λ r g l. let e = eqb-false (digit n r) 7 (some_off _ (res_of n) r c.1.1.1.1.0 g l) in let m : digit n r < 8 = mod-lt _ (omega arith) in omega arith;
      rest = sevens_past n c.1.1.1.1.1.0;
      kept = and_off _ _ c.1.1.1.1.1.1.0;
    }

pub valid_clear : (n : ℕ) → Valid n → Clear (cell_rules n)
valid_clear n v =
    let t = v.top in (
      ne_eqb (top_bit n) 1 (λ q. omega arith),
      (
        ap not (eq-eqb _ _ v.mode),
        (
          ap not (eq-eqb _ _ v.reserved),
          (
            le-ltb _ _ v.base,
            (
              off_some _ (res_of n) (λ r g l. ne_eqb (digit n r) 7 (λ q. let s = v.small r g l in omega arith)),
              (
                off_some _ (15 - res_of n) (λ r g l. ap not (eq-eqb _ _ (v.rest (res_of n + r) (omega arith) (omega arith)))),
                (off_and _ _ v.kept, tt),
              ),
            ),
          ),
        ),
      ),
    )

pub accepted_valid : (n : ℕ) → check_of n ≡ answered n → Valid n
accepted_valid n e = clear_valid n (answered_clear (cell_rules n) n n e)

pub valid_accepted : (n : ℕ) → Valid n → check_of n ≡ answered n
valid_accepted n v = clear_answered (cell_rules n) n (valid_clear n v)
