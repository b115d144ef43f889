-- The ancestor of a cell: the cell is among its descendants, and it is the only such cell of its resolution. Assumes nothing.
use mathlib.Core.Path.{◌≡◌, refl, sym, ◌∙◌, subst}
use mathlib.Core.Bool.{Bool, true, false, ◌&&◌, false≢true}
use Prim.Native.Nat.{ℕ, ◌^◌, ◌≤◌, ◌<◌}
use native.Mathlib.Decide.{dec_le}
use native.Mathlib.Omega.{arith}
use lib.Dec.{eqb, leb}
use borrow.Author.Tests.{leb-true, eqb-true, le-leb, eq-eqb}
use Rattle.index.specs.Layout.{res_of, Valid}
use Rattle.index.specs.Ancestor.{ancestor_of}
use Rattle.index.proofs.View.{packed}
use Rattle.index.proofs.Cut.{ancestor_valid, ancestor_res, ancestor_base, ancestor_fits, ancestor_used}
use Rattle.descent.specs.Descendants.{Descendant, count_of}
use Rattle.descent.specs.Positions.{child_at, position_of, under}
use Rattle.descent.proofs.Strings.{used_digit, digit_used}
use Rattle.descent.proofs.Exact.{sound, complete}

-- valid and of the resolution t: `ancestor_valid`, `ancestor_res` of index
pub ancestor_above : (y t : ℕ) → y < 2 ^ 64 → Valid y → t ≤ res_of y → Descendant (ancestor_of y t) (res_of y) y
ancestor_above y t h v l =
    let e : res_of (ancestor_of y t) ≡ t = ancestor_res y t v l in
    record {
      fits = h;
      fine = refl;
      base = sym (ancestor_base y t v l);
      lead = rw e (used_digit y (ancestor_of y t) t (sym (ancestor_used y t v l)));
      valid = v;
    }

pub ancestor_only : (a y t : ℕ) → a < 2 ^ 64 → Valid a → Descendant a t y → a ≡ ancestor_of y (res_of a)
unfolding ancestor_of
ancestor_only a y t h v d = sym (packed a h v) ∙ rw (← d.base, ← (digit_used y a (res_of a) d.lead))

pub ancestor_child : (n t : ℕ) → n < 2 ^ 64 → Valid n → res_of n ≤ t → t ≤ 15 → (p : ℕ) → p < count_of n t → ancestor_of (child_at n t p) (res_of n) ≡ n
ancestor_child n t h v lo hi p hp = sym (ancestor_only n (child_at n t p) t h v (sound n t h v lo hi p hp))

-- a cell y and its ancestor at `own`
module _ (y own : ℕ) (h64 : y < 2 ^ 64) (v : Valid y) (l : own ≤ res_of y) where
  abbrev n : ℕ
  n = ancestor_of y own

  pub own_is : res_of n ≡ own
  own_is = ancestor_res y own v l

  pub owner_fits : n < 2 ^ 64
  owner_fits = let f = ancestor_fits y own v l in omega arith

  pub owner_valid : Valid n
  owner_valid = ancestor_valid y own v l

  pub owner_low : res_of n ≤ res_of y
  owner_low = rw own_is l

  pub among_children : (position_of n y < count_of n (res_of y)) × (child_at n (res_of y) (position_of n y) ≡ y)
  among_children = complete n (res_of y) owner_fits owner_valid owner_low (omega arith) y (ancestor_above y own h64 v l)

pub and_parts : (a b : Bool) → a && b ≡ true → (a ≡ true) × (b ≡ true)
and_parts true b e = (refl, e)
and_parts false b e = absurd (false≢true e)

-- a descendant is not coarser
pub descendant_finer : (n t y : ℕ) → Valid n → Descendant n t y → res_of n ≤ t
descendant_finer n t y v d =
    elim (dec_le (res_of n) t) [ yes l ↦ l | no g ↦ absurd (let r = d.valid.rest (res_of n) (omega (arith, d.fine)) (omega arith) in omega (arith, d.lead (res_of n) (omega arith) (omega arith), v.small (res_of n) (omega arith) (omega arith))) ]

-- the test of refusal 12
pub under_descendant : (n y : ℕ) → y < 2 ^ 64 → Valid y → under n y ≡ true → Descendant n (res_of y) y
under_descendant n y h v e =
    let p = and_parts (leb (res_of n) (res_of y)) (eqb (ancestor_of y (res_of n)) n) e in
    subst (λ (a : ℕ). Descendant a (res_of y) y) (eqb-true (ancestor_of y (res_of n)) n p.1) (ancestor_above y (res_of n) h v (leb-true (res_of n) (res_of y) p.0))

pub descendant_under : (n t y : ℕ) → n < 2 ^ 64 → Valid n → Descendant n t y → under n y ≡ true
descendant_under n t y h v d =
    let g : res_of n ≤ res_of y = rw d.fine (descendant_finer n t y v d) in
    rw (le-leb (res_of n) (res_of y) g, eq-eqb (ancestor_of y (res_of n)) n (sym (ancestor_only n y t h v d)))
