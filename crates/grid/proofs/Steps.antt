-- The ways through the step's definition, and the new digits of a cell: with them, turned or not, the answer is a cell. Assumes nothing.
use mathlib.Core.Path.{◌≡◌, refl, sym, ap, ◌∙◌, subst}
use mathlib.Core.Bool.{Bool, true, false, cond, ◌&&◌}
use mathlib.Core.List.{List, map}
use Prim.Native.Nat.{ℕ, ◌^◌, ◌<◌, ◌≤◌}
use native.Mathlib.Omega.{arith}
use lib.Dec.{eqb}
use lib.ListN.{length}
use borrow.Author.Tests.{eq-eqb, ne_eqb}
use Rattle.plane.specs.Directions.{turns}
use Rattle.plane.specs.Strings.{Digits}
use Rattle.index.specs.Layout.{base_of, res_of, digit, is_pentagonal, first_of, Valid}
use Rattle.index.specs.View.{used, pack, first, Fit}
use Rattle.index.specs.Refusals.{answered, refused}
use Rattle.index.specs.Written.{WithDigits}
use Rattle.index.proofs.Runs.{length_used}
use Rattle.index.proofs.View.{fit, first_used}
use Rattle.index.proofs.Redrawn.{redrawn_cell, redrawn_twice}
use Rattle.index.proofs.Loose.{loose_used, loose_rest, loose_res}
use Rattle.turns.proofs.Turning.{length_turned, digits_turned, first_turned}
use Rattle.walks.specs.Walks.{walked, walked_of, carry_of}
use Rattle.grid.specs.Steps.{inside, leaves, out_of_deleted, stays_in, step_of}
use Rattle.walks.proofs.Walks.{length_walked, digits_walked, walk_moved}

-- the old and the new digits
abbrev pub olds : ℕ → List ℕ
olds n = used n (res_of n)

abbrev pub news : ℕ → ℕ → List ℕ
news n way = walked (olds n) way

-- what each way through the definition says
pub leaving : (n way : ℕ) → (carry_of n way ≡ 0 → ⊥) → step_of n way ≡ answered (leaves (carry_of n way))
unfolding step_of
leaving n way e = rw (ne_eqb (carry_of n way) 0 e)

pub staying : (n way : ℕ) → carry_of n way ≡ 0 → (is_pentagonal (base_of n) ≡ true → first (news n way) ≡ 1 → ⊥) → step_of n way ≡ answered (inside (pack (base_of n) (news n way)) 0)
unfolding step_of stays_in
staying n way e f = rw (eq-eqb (carry_of n way) 0 e) (pick (is_pentagonal (base_of n)) refl)
  where
    pick : (b : Bool) → is_pentagonal (base_of n) ≡ b → cond (is_pentagonal (base_of n) && eqb (first (news n way)) 1) (out_of_deleted (base_of n) (first (olds n)) (news n way)) (answered (inside (pack (base_of n) (news n way)) 0)) ≡ answered (inside (pack (base_of n) (news n way)) 0)
    pick true q = rw (q, ne_eqb (first (news n way)) 1 (f q))
    pick false q = rw q

module _ (n way : ℕ) (e : carry_of n way ≡ 0) (p : is_pentagonal (base_of n) ≡ true) (g : first (news n way) ≡ 1) where
  out : step_of n way ≡ out_of_deleted (base_of n) (first (olds n)) (news n way)
  unfolding step_of stays_in
  out = rw (eq-eqb (carry_of n way) 0 e, p, eq-eqb (first (news n way)) 1 g)

  pub refusing : first (olds n) ≡ 0 → step_of n way ≡ refused 17
  unfolding out_of_deleted
  refusing f = out ∙ rw (eq-eqb (first (olds n)) 0 f)

  pub turning_ccw : first (olds n) ≡ 3 → step_of n way ≡ answered (inside (pack (base_of n) (map (turns true 1) (news n way))) 1)
  unfolding out_of_deleted
  turning_ccw f = out ∙ rw (ne_eqb (first (olds n)) 0 (λ q. omega arith), eq-eqb (first (olds n)) 3 f)

  pub turning_cw : (first (olds n) ≡ 0 → ⊥) → (first (olds n) ≡ 3 → ⊥) → step_of n way ≡ answered (inside (pack (base_of n) (map (turns false 1) (news n way))) 5)
  unfolding out_of_deleted
  turning_cw a b = out ∙ rw (ne_eqb (first (olds n)) 0 a, ne_eqb (first (olds n)) 3 b)

-- the new digits of a cell
module _ (n way : ℕ) (v : Valid n) (hw : way < 7) where
  pub news_length : length (news n way) ≡ res_of n
  news_length = length_walked (olds n) way ∙ length_used n (res_of n)

  pub news_digits : Digits (news n way)
  news_digits = (digits_walked (olds n) way (fit n v).digits hw).0

  pub fit_news : (is_pentagonal (base_of n) ≡ true → first (news n way) ≡ 1 → ⊥) → Fit (base_of n) (news n way)
  fit_news kept = record { base = v.base; short = rw news_length (omega arith); digits = news_digits; kept = kept }

  -- turned once, the first digit 1 is 5 or 3
  pub fit_turned : (o : Bool) → first (news n way) ≡ 1 → Fit (base_of n) (map (turns o 1) (news n way))
  fit_turned o g =
      record {
        base = v.base;
        short = rw (length_turned o 1 (news n way), news_length) (omega arith);
        digits = digits_turned o 1 (news n way) news_digits;
        kept = λ q e. moved o (sym (first_turned o 1 (news n way) news_digits ∙ ap (turns o 1) g) ∙ e);
      }
    where
      moved : (o : Bool) → turns o 1 1 ≡ 1 → ⊥
      moved true e = let z : ◌≡◌ {A = ℕ} 5 1 = e in omega arith
      moved false e = let z : ◌≡◌ {A = ℕ} 3 1 = e in omega arith

  -- the walk's number has them
  walked_res : res_of (walked_of n way) ≡ res_of n
  unfolding walked_of
  walked_res = loose_res (base_of n) (news n way) (omega (arith, v.base)) (rw news_length (omega arith)) news_digits ∙ news_length

  pub walked_used : used (walked_of n way) (res_of (walked_of n way)) ≡ news n way
  unfolding walked_of
  walked_used =
      let hb : base_of n ≤ 127 = omega (arith, v.base) in
      let hs : length (news n way) ≤ 15 = rw news_length (omega arith) in
      ap (used (pack (base_of n) (news n way))) (loose_res (base_of n) (news n way) hb hs news_digits) ∙ loose_used (base_of n) (news n way) hb hs news_digits

  pub walked_rest : (s : ℕ) → res_of (walked_of n way) < s → s ≤ 15 → digit (walked_of n way) s ≡ 7
  unfolding walked_of
  walked_rest s g l =
      loose_rest (base_of n) (news n way) (omega (arith, v.base)) (rw news_length (omega arith)) news_digits s (subst (λ (k : ℕ). k < s) (walked_res ∙ sym news_length) g) l

  pub walked_first : first_of (walked_of n way) (res_of (walked_of n way)) ≡ first (news n way)
  walked_first = sym (first_used (walked_of n way) (res_of (walked_of n way))) ∙ ap first walked_used

  pub walked_turned : (o : Bool) (y : ℕ) → n < 2 ^ 64 → y < 2 ^ 64 → WithDigits (walked_of n way) (map (turns o 1) (used (walked_of n way) (res_of (walked_of n way)))) y → y ≡ pack (base_of n) (map (turns o 1) (news n way))
  walked_turned o y h hy w =
      let m = walk_moved n way h v hw in
      let d : used (walked_of n way) (res_of n) ≡ news n way = subst (λ (k : ℕ). used (walked_of n way) k ≡ news n way) walked_res walked_used in
      redrawn_cell n (map (turns o 1) (news n way)) y hy v
      (redrawn_twice n (news n way) (map (turns o 1) (news n way)) (walked_of n way) y (record { upper = m.upper; digits = d; rest = m.rest })
      (subst (λ (xs : List ℕ). WithDigits (walked_of n way) (map (turns o 1) xs) y) walked_used w))
