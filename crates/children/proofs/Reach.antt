-- From a fresh cursor the k-th call gives element k of the listing, then Done; and the cursors that are accepted are exactly those that a
-- fresh cursor and some number of calls make. Assumes nothing.
use mathlib.Core.Path.{◌≡◌, refl, sym, ap, ◌∙◌, subst}
use mathlib.Core.Bool.{Bool, true, false, cond, ◌&&◌}
use mathlib.Core.Logic.{⊎_elim}
use Prim.Native.Nat.{ℕ, zero, suc, ◌+◌, ◌-◌, ◌^◌, ◌≤◌, ◌<◌}
use native.Mathlib.Nat.{eq-zero-or-pos}
use native.Mathlib.Decide.{dec_le}
use native.Mathlib.Numerals.{add-one}
use native.Mathlib.Omega.{arith}
use lib.Dec.{eqb}
use lib.IntN.{ℤ, pos, negsuc}
use lib.ListN.{get_or}
use borrow.Author.Tests.{eq-eqb, ne_eqb, le-leb}
use Rattle.index.specs.Layout.{res_of, Valid}
use Rattle.index.specs.Ancestor.{ancestor_of}
use Rattle.index.proofs.Validity.{valid_accepted}
use Rattle.descent.specs.Descendants.{count_of}
use Rattle.descent.specs.Positions.{child_at, position_of, listing}
use Rattle.children.specs.Skips.{skip_of}
use Rattle.children.specs.Cursors.{cursor_after, owner_of, accepted, legal, next_of, handed, after, Made}
use Rattle.plane.specs.Points.{equal}
use Rattle.children.specs.declared.children.Cursor.{Cursor}
use Rattle.children.specs.declared.children.Given.TheVariants.{Child, Done, Refused}
use Rattle.descent.proofs.Start.{some_child, child_valid, child_res}
use Rattle.descent.proofs.Exact.{position_child}
use Rattle.descent.proofs.Whole.{listing_at}
use Rattle.descent.proofs.Ancestors.{ancestor_child}
use Rattle.children.proofs.Stands.{same_cursor, cursor_at, cursor_end}
use Rattle.children.proofs.Calls.{Spot, legal_spot, done_call, child_given, refused_call}

same_refl : (z : ℤ) → equal z z ≡ true
same_refl (pos a) = eq-eqb a a refl
same_refl (negsuc a) = eq-eqb a a refl

and_true : {a b : Bool} → a ≡ true → b ≡ true → a && b ≡ true
and_true e f = rw (e, f)

counts : (l p t : ℕ) → (l ≡ 0 → p + 1 ≡ t) → ((l ≡ 0 → ⊥) → p + l ≡ t) → cond (eqb l 0) (eqb (p + 1) t) (eqb (p + l) t) ≡ true
counts l p t f g =
    ⊎_elim (λ (z : l ≡ 0). rw (eq-eqb l 0 z) (eq-eqb (p + 1) t (f z))) (λ h. rw (ne_eqb l 0 (λ z. omega arith)) (eq-eqb (p + l) t (g (λ z. omega arith))))
    (eq-zero-or-pos l)

module _ (c : Cursor) (n p : ℕ) (s : Spot c n p) where
  pub spot_owner : owner_of c ≡ n
  spot_owner =
      ap (λ (y : ℕ). ancestor_of y c.own) s.here ∙ ap (ancestor_of (child_at n c.target p)) (sym s.own)
      ∙ ancestor_child n c.target s.fits s.valid s.low s.high p s.under

  pub spot_position : position_of (owner_of c) c.number ≡ p
  spot_position =
      ap (λ (m : ℕ). position_of m c.number) spot_owner ∙ ap (position_of n) s.here
      ∙ position_child n c.target s.fits s.valid s.low s.high p s.under

  fine : res_of c.number ≡ c.target
  fine = ap res_of s.here ∙ child_res n c.target s.fits s.valid s.low s.high p s.under

  good : Valid c.number
  good = subst Valid (sym s.here) (child_valid n c.target s.fits s.valid s.low s.high p s.under)

  total : count_of (owner_of c) (res_of c.number) ≡ count_of n c.target
  total = ap (λ (m : ℕ). count_of m (res_of c.number)) spot_owner ∙ ap (count_of n) fine

  pub spot_legal : legal c ≡ true
  spot_legal =
      and_true (ap accepted (valid_accepted c.number good))
      (and_true (eq-eqb (res_of c.number) c.target fine)
      (and_true (le-leb c.own c.target (let l = s.low in omega (arith, s.own)))
      (and_true
      (counts c.left (position_of (owner_of c) c.number) (count_of (owner_of c) (res_of c.number)) (λ z. omega (arith, spot_position, total, s.last z)) (λ z. omega (arith, spot_position, total, s.more z)))
      (ap (equal c.skip) (ap (λ (m : ℕ). skip_of m c.number) spot_owner ∙ sym s.skip) ∙ same_refl c.skip))))

module _ (n t : ℕ) (h64 : n < 2 ^ 64) (v : Valid n) (lo : res_of n ≤ t) (hi : t ≤ 15) where
  stands : (k : ℕ) → k < count_of n t → Spot (cursor_after n t k) n k
  stands k h =
      subst (λ (c : Cursor). Spot c n k) (sym (cursor_at n t k h))
      (record { fits = h64; valid = v; own = refl; low = lo; high = hi; under = h; here = refl; skip = refl; last = λ z. omega arith; more = λ z. omega arith })

  ended : (k : ℕ) → count_of n t ≤ k → Spot (cursor_after n t k) n (count_of n t - 1)
  ended k h =
      let o = some_child n t h64 v lo hi in
      subst (λ (c : Cursor). Spot c n (count_of n t - 1)) (sym (cursor_end n t k h))
      (record { fits = h64; valid = v; own = refl; low = lo; high = hi; under = omega arith; here = refl; skip = refl; last = λ z. omega arith; more = λ z. absurd (z refl) })

  -- where one is left a call gives the child at k; then Done, with the cursor unchanged
  pub next_child : (k : ℕ) → k < count_of n t → next_of (cursor_after n t k) ≡ Child (child_at n t k) (cursor_after n t (suc k))
  next_child k h =
      let c : Cursor = cursor_after n t k in
      let s = stands k h in
      let e = cursor_at n t k h in
      let d : cursor_after n t (suc k) ≡ cursor_after (owner_of c) c.target (position_of (owner_of c) c.number + 1) =
      ap (cursor_after n t) (sym (add-one k) ∙ ap (λ (i : ℕ). i + 1) (sym (spot_position c n k s)))
      ∙ ap (λ (m : ℕ). cursor_after m t (position_of (owner_of c) c.number + 1)) (sym (spot_owner c n k s))
      ∙ ap (λ (x : Cursor). cursor_after (owner_of c) x.target (position_of (owner_of c) c.number + 1)) (sym e) in
      sym (ap (λ (x : Cursor). Child x.number (cursor_after n t (suc k))) (sym e) ∙ child_given c (cursor_after n t (suc k)) (spot_legal c n k s) (λ z. omega (arith, ap (λ (x : Cursor). x.left) e)) d)

  pub next_done : (k : ℕ) → count_of n t ≤ k → next_of (cursor_after n t k) ≡ Done (cursor_after n t k)
  next_done k h =
      let c : Cursor = cursor_after n t k in
      sym (done_call c (spot_legal c n (count_of n t - 1) (ended k h)) (ap (λ (x : Cursor). x.left) (cursor_end n t k h)))

  pub after_calls : (k : ℕ) → after k (cursor_after n t 0) ≡ cursor_after n t k
  unfolding after
  after_calls zero = refl
  after_calls (suc k) =
      ap (λ (c : Cursor). handed (next_of c)) (after_calls k)
      ∙ elim (dec_le (count_of n t) k) [ yes h ↦ ap handed (next_done k h) ∙ cursor_end n t k h ∙ sym (cursor_end n t (suc k) (omega arith)) | no h ↦ ap handed (next_child k (omega arith)) ]

  -- the k-th call gives element k of the listing, then Done
  pub call_child : (k : ℕ) → k < count_of n t → next_of (after k (cursor_after n t 0)) ≡ Child (get_or (listing n t) k 0) (after (suc k) (cursor_after n t 0))
  call_child k h = rw (after_calls k, after_calls (suc k), listing_at n t k h) (next_child k h)

  pub call_done : (k : ℕ) → count_of n t ≤ k → next_of (after k (cursor_after n t 0)) ≡ Done (after k (cursor_after n t 0))
  call_done k h = rw (after_calls k) (next_done k h)

-- the cursors that are accepted
pub made_legal : (c : Cursor) → Made c → legal c ≡ true
made_legal c m =
    let n : ℕ = m.cell in
    let t : ℕ = m.finer in
    let k : ℕ = m.calls in
    ap legal (m.same ∙ after_calls n t m.fits m.valid m.low m.high k)
    ∙ elim (dec_le (count_of n t) k) [
      | yes h ↦ spot_legal (cursor_after n t k) n (count_of n t - 1) (ended n t m.fits m.valid m.low m.high k h)
      | no h ↦ spot_legal (cursor_after n t k) n k (stands n t m.fits m.valid m.low m.high k (omega arith))
    ]

pub legal_made : (c : Cursor) → c.number < 2 ^ 64 → legal c ≡ true → Made c
legal_made c h e =
    let n : ℕ = owner_of c in
    let p : ℕ = position_of n c.number in
    let s : Spot c n p = legal_spot c h e in
    let t : ℕ = c.target in
    let k : ℕ = count_of n t - c.left in
    record { cell = n; finer = t; calls = k; fits = s.fits; valid = s.valid; low = s.low; high = s.high; same = found n p s ∙ sym (after_calls n t s.fits s.valid s.low s.high k) }
  where
    found : (n p : ℕ) → Spot c n p → c ≡ cursor_after n c.target (count_of n c.target - c.left)
    found n p s =
        ⊎_elim
        (λ (z : c.left ≡ 0).
        let t : ℕ = c.target in
        let q : count_of n t - 1 ≡ p = omega (arith, s.last z) in
        let y : c.number ≡ child_at n t (count_of n t - 1) = s.here ∙ ap (child_at n t) (sym q) in
        same_cursor _ _ (sym s.own) refl y (s.skip ∙ ap (skip_of n) y) z ∙ sym (cursor_end n t (count_of n t - c.left) (omega arith)))
        (λ g.
        let t : ℕ = c.target in
        let m = s.more (λ z. omega arith) in
        let q : count_of n t - c.left ≡ p = omega arith in
        same_cursor _ _ (sym s.own) refl s.here (s.skip ∙ ap (skip_of n) s.here) (omega arith) ∙ sym (cursor_at n t p s.under) ∙ ap (cursor_after n t) (sym q))
        (eq-zero-or-pos c.left)

-- any other cursor is refused, and none of these
pub unmade_refused : (c : Cursor) → c.number < 2 ^ 64 → (Made c → ⊥) → next_of c ≡ Refused c
unmade_refused c h g = go (legal c) refl
  where
    go : (b : Bool) → legal c ≡ b → next_of c ≡ Refused c
    go true e = absurd (g (legal_made c h e))
    go false e = sym (refused_call c e)

pub made_given : (c d : Cursor) → Made c → next_of c ≡ Refused d → ⊥
unfolding next_of
made_given c d m e = go (eqb c.left 0) (rw (made_legal c m) at e)
  where
    go : (b : Bool) → cond b (Done c) (Child c.number (cursor_after (owner_of c) c.target (position_of (owner_of c) c.number + 1))) ≡ Refused d → ⊥
    go true q = let z : ◌≡◌ {A = ℕ} 0 1 = cc in omega arith
    go false q = let z : ◌≡◌ {A = ℕ} 0 1 = cc in omega arith
