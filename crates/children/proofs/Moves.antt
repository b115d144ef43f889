-- What `advance` gives at a child is the next child, and the skip that goes with it. Assumes nothing.
use mathlib.Core.Path.{◌≡◌, refl, sym, ap, ◌∙◌, subst}
use mathlib.Core.Bool.{Bool, true, false, cond}
use mathlib.Core.List.{List, [], ◌∷◌, ◌++◌}
use Prim.Native.Nat.{ℕ, zero, suc, ◌+◌, ◌-◌, ◌*◌, ◌/◌, ◌^◌, ◌≤◌, ◌<◌}
use native.Mathlib.Nat.{div-div-eq-div-mul, suc-ne-zero}
use native.Mathlib.Numerals.{add-one}
use native.Mathlib.Omega.{arith}
use lib.IntN.{ℤ, pos, negsuc}
use lib.ListN.{length, get_or, drop}
use lib.Signed.{mag}
use mir.Syntax.{w32}
use mir.Val.{SFits}
use Rattle.index.specs.Layout.{digit, res_of, base_of, first_of, is_pentagonal, Valid}
use Rattle.index.specs.Ancestor.{ancestor_of}
use Rattle.index.specs.View.{used, octal, first}
use Rattle.plane.specs.Strings.{Digits}
use Rattle.index.proofs.Runs.{place, place_suc, length_used}
use Rattle.index.proofs.View.{first_used}
use Rattle.descent.specs.Descendants.{pentagon, count_of}
use Rattle.descent.specs.Positions.{below, child_at, position_of}
use Rattle.children.specs.Skips.{lead, skip_of, Inner, Following}
use Rattle.children.proofs.Carry.{octs, carried, fallen, Advanced}
use Rattle.descent.proofs.Below.{length_below, digits_below, first_zero}
use Rattle.descent.proofs.Start.{child_fits, child_valid, child_res, child_used, child_sum, some_child}
use Rattle.descent.proofs.Exact.{and_zero, position_child}
use Rattle.descent.proofs.Ancestors.{own_is, owner_fits, owner_valid, owner_low, among_children, ancestor_child}
use Rattle.children.proofs.Carry.{mark, step, lead_le, lead_none, lead_append}

-- the used digits, read off the number by division
shift_octs : (n k : ℕ) → k ≤ 15 → used n k ≡ octs k (n / 2 ^ (3 * (15 - k)))
unfolding used octs
shift_octs n zero h = refl
shift_octs n (suc k) h =
    let e : 15 - k ≡ suc (15 - suc k) = omega arith in
    let s : n / 2 ^ (3 * (15 - k)) ≡ n / 2 ^ (3 * (15 - suc k)) / 8 = rw (e, place_suc) (sym (div-div-eq-div-mul n (2 ^ (3 * (15 - suc k))) 8)) in
    rw (← s) (ap (λ (l : List ℕ). digit n (suc k) ∷ l) (shift_octs n k (omega arith)))

pub used_octs : (n k : ℕ) → k ≤ 15 → used n k ≡ octs k (n / 8 ^ (15 - k))
used_octs n k h = shift_octs n k h ∙ ap (λ (z : ℕ). octs k (n / z)) (place (15 - k))

octs_front : (xs ys : List ℕ) (k x : ℕ) → octs k x ≡ xs ++ ys → octs (length xs) x ≡ xs
unfolding octs
octs_front [] ys k x e = refl
octs_front (a ∷ xs) ys zero x e = absurd (suc-ne-zero _ (sym (ap length e)))
octs_front (a ∷ xs) ys (suc k) x e = rw (octs_front xs ys k (x / 8) (ap (λ (l : List ℕ). drop 1 l) e), ap (λ (l : List ℕ). get_or l 0 0) e)

module _ (n t : ℕ) (h64 : n < 2 ^ 64) (v : Valid n) (lo : res_of n ≤ t) (hi : t ≤ 15) where
  abbrev f : Bool
  f = pentagon n

  abbrev m : ℕ
  m = t - res_of n

  pub child_octs : (p : ℕ) → p < count_of n t → octs m (child_at n t p / 8 ^ (15 - t)) ≡ below f m p
  child_octs p hp =
      let y : ℕ = child_at n t p in
      let w : octs t (y / 8 ^ (15 - t)) ≡ below f m p ++ used n (res_of n) = sym (used_octs y t hi) ∙ child_used n t h64 v lo hi p hp in
      subst (λ (k : ℕ). octs k (y / 8 ^ (15 - t)) ≡ below f m p) (length_below f m p) (octs_front (below f m p) (used n (res_of n)) t (y / 8 ^ (15 - t)) w)

  pub child_skip : (p : ℕ) → p < count_of n t → skip_of n (child_at n t p) ≡ mark f (res_of n) (below f m p)
  child_skip p hp = rw (child_res n t h64 v lo hi p hp, child_used n t h64 v lo hi p hp) (go f refl (below f m p))
    where
      go : (b : Bool) → f ≡ b → (xs : List ℕ) → cond b (pos (lead (xs ++ used n (res_of n)))) (negsuc 0) ≡ mark b (res_of n) xs
      go false e xs = refl
      go true e xs =
          let z : first (used n (res_of n)) ≡ 0 = first_used n (res_of n) ∙ (and_zero (is_pentagonal (base_of n)) (first_of n (res_of n)) e).1 in
          ap pos (lead_append xs (used n (res_of n)) z ∙ rw (length_used n (res_of n)))

  first_skip : skip_of n (child_at n t 0) ≡ cond f (pos t) (negsuc 0)
  first_skip = child_skip 0 (some_child n t h64 v lo hi) ∙ go f
    where
      go : (b : Bool) → mark b (res_of n) (below b m 0) ≡ cond b (pos t) (negsuc 0)
      go false = refl
      go true = ap pos (rw (lead_none (below true m 0) (first_zero m), length_below true m 0) (omega arith))

  -- in the words of `fresh`
  pub fresh_skip : (c r : ℕ) (k : ℤ) → c ≡ n → r ≡ t → k ≡ cond (pentagon c) (pos r) (negsuc 0) → k ≡ skip_of n (child_at n t 0)
  fresh_skip c r k ec er ek = ek ∙ rw (ec, er) (sym first_skip)

  -- what `advance` asks
  pub asked : (p : ℕ) → p < count_of n t → (res_of n ≤ t) × (t ≤ 15) × (child_at n t p < 2 ^ 60) × Digits (octs (t - res_of n) (child_at n t p / 8 ^ (15 - t)))
  asked p hp = (lo, hi, child_fits n t h64 v lo hi p hp, subst Digits (sym (child_octs p hp)) (digits_below f m p))

  pub moved : (p y : ℕ) (s : ℤ) → suc p < count_of n t → Advanced (child_at n t p) (skip_of n (child_at n t p)) (res_of n) t y s → (y ≡ child_at n t (suc p)) × (s ≡ skip_of n (child_at n t (suc p)))
  moved p y s h a =
      let hp : p < count_of n t = omega arith in
      let u : ℕ = 8 ^ (15 - t) in
      let w = step f (res_of n) m p h in
      let c : carried (skip_of n (child_at n t p)) (res_of n) (octs m (child_at n t p / u)) ≡ below f m (suc p) = rw (child_skip p hp, child_octs p hp) w.digits in
      let g : fallen (skip_of n (child_at n t p)) (res_of n) (octs m (child_at n t p / u)) ≡ mark f (res_of n) (below f m (suc p)) = rw (child_skip p hp, child_octs p hp) w.skip in
      let d : y + u * octal (below f m p) ≡ child_at n t p + u * octal (below f m (suc p)) = rw (c, child_octs p hp) at a.digits in (
        lin y (child_at n t p) (child_at n t (suc p)) (u * octal (below f m p)) (u * octal (below f m (suc p))) (child_at n t 0) d (child_sum n t h64 v lo hi p hp) (child_sum n t h64 v lo hi (suc p) h),
        a.skip ∙ g ∙ sym (child_skip (suc p) h),
      )
    where
      lin : (r y z x x' s : ℕ) → r + x ≡ y + x' → s + x ≡ y → s + x' ≡ z → r ≡ z
      lin r y z x x' s d a b = omega arith

-- in the words of `advance`'s contract
module _ (y own : ℕ) (z : ℤ) (h64 : y < 2 ^ 64) (i : Inner y z own) where
  abbrev n : ℕ
  n = ancestor_of y own

  abbrev p : ℕ
  p = position_of n y

  there : child_at n (res_of y) p ≡ y
  there = (among_children y own h64 i.valid i.low).1

  same_own : res_of n ≡ own
  same_own = own_is y own h64 i.valid i.low

  pub inner_asked : (target : ℕ) → target ≡ res_of y → (own ≤ target) × (target ≤ 15) × (y < 2 ^ 60) × Digits (octs (target - own) (y / 8 ^ (15 - target)))
  inner_asked target e =
      let a = asked n (res_of y) (owner_fits y own h64 i.valid i.low) (owner_valid y own h64 i.valid i.low) (owner_low y own h64 i.valid i.low) (omega arith) p (among_children y own h64 i.valid i.low).0 in
      let b : (own ≤ res_of y) × (res_of y ≤ 15) × (y < 2 ^ 60) × Digits (octs (res_of y - own) (y / 8 ^ (15 - res_of y))) =
      subst (λ (o : ℕ). (o ≤ res_of y) × (res_of y ≤ 15) × (y < 2 ^ 60) × Digits (octs (res_of y - o) (y / 8 ^ (15 - res_of y)))) same_own
      (subst (λ (x : ℕ). (res_of n ≤ res_of y) × (res_of y ≤ 15) × (x < 2 ^ 60) × Digits (octs (res_of y - res_of n) (x / 8 ^ (15 - res_of y)))) there a) in
      rw e b

  pub follow : (target x : ℕ) (s : ℤ) → target ≡ res_of y → Advanced y z own target x s → Following y own x s
  follow target x s e a =
      let b : Advanced y (skip_of n y) (res_of n) (res_of y) x s =
      subst (λ (k : ℤ). Advanced y k (res_of n) (res_of y) x s) i.skip
      (subst (λ (o : ℕ). Advanced y z o (res_of y) x s) (sym same_own) (subst (λ (t : ℕ). Advanced y z own t x s) e a)) in
      let c : Advanced (child_at n (res_of y) p) (skip_of n (child_at n (res_of y) p)) (res_of n) (res_of y) x s =
      subst (λ (j : ℕ). Advanced j (skip_of n j) (res_of n) (res_of y) x s) (sym there) b in
      let h = i.more in
      let m = moved n (res_of y) (owner_fits y own h64 i.valid i.low) (owner_valid y own h64 i.valid i.low) (owner_low y own h64 i.valid i.low) (omega arith) p x s (omega arith) c in
      record { number = m.0 ∙ ap (child_at n (res_of y)) (sym (add-one p)); skip = m.1 ∙ ap (skip_of n) (sym m.0) }

-- the child at p and the one after it
module _ (n t : ℕ) (h64 : n < 2 ^ 64) (v : Valid n) (lo : res_of n ≤ t) (hi : t ≤ 15) (p : ℕ) (h : suc p < count_of n t) where
  abbrev y : ℕ
  y = child_at n t p

  owner : ancestor_of y (res_of n) ≡ n
  owner = ancestor_child n t h64 v lo hi p (omega arith)

  fine : res_of y ≡ t
  fine = child_res n t h64 v lo hi p (omega arith)

  spot : position_of (ancestor_of y (res_of n)) y ≡ p
  spot = ap (λ (m : ℕ). position_of m y) owner ∙ position_child n t h64 v lo hi p (omega arith)

  pub inner_child : Inner y (skip_of n y) (res_of n)
  inner_child =
      record {
        valid = child_valid n t h64 v lo hi p (omega arith);
        low = rw fine lo;
        more = let e : count_of (ancestor_of y (res_of n)) (res_of y) ≡ count_of n t = ap (λ (m : ℕ). count_of m (res_of y)) owner ∙ ap (count_of n) fine in omega (arith, spot);
        skip = ap (λ (m : ℕ). skip_of m y) (sym owner);
      }

  pub following_child : (x : ℕ) (s : ℤ) → Following y (res_of n) x s → (x ≡ child_at n t (suc p)) × (s ≡ skip_of n (child_at n t (suc p)))
  following_child x s f =
      let e : x ≡ child_at n t (suc p) =
      f.number ∙ ap (λ (m : ℕ). child_at m (res_of y) (position_of (ancestor_of y (res_of n)) y + 1)) owner
      ∙ ap (λ (k : ℕ). child_at n k (position_of (ancestor_of y (res_of n)) y + 1)) fine
      ∙ ap (λ (j : ℕ). child_at n t (j + 1)) spot ∙ ap (child_at n t) (add-one p) in
      (e, f.skip ∙ ap (λ (m : ℕ). skip_of m x) owner ∙ ap (skip_of n) e)

-- a skip is -1 or at most the resolution of the number
pub skip_fits : (n y : ℕ) → SFits w32 (skip_of n y)
skip_fits n y = record { sfits = go (pentagon n) (res_of y) (lead_le (used y (res_of y))) (omega arith) }
  where
    go : (b : Bool) (k : ℕ) → lead (used y k) ≤ length (used y k) → k ≤ 15 → mag (cond b (pos (lead (used y k))) (negsuc 0)) < 2 ^ 31
    go true k l h = let e = length_used y k in omega arith
    go false k l h = omega arith
