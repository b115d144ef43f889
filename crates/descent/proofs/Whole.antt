-- The listing is a listing in the document's words, its length is the count, and no other list is one. Assumes nothing.
use mathlib.Core.Path.{◌≡◌, refl, sym, ap, ◌∙◌, subst}
use mathlib.Core.Logic.{⊎_elim}
use mathlib.Core.List.{List, [], ◌∷◌}
use Prim.Native.Nat.{ℕ, zero, suc, ◌^◌, ◌≤◌, ◌<◌}
use native.Mathlib.Nat.{eq-or-lt_of_le, le_of_suc-le-suc, not-suc-le-zero}
use native.Mathlib.Decide.{dec_le}
use native.Mathlib.Omega.{arith}
use lib.ListN.{length, get_or, get_or-append}
use lib.Seq.{get_or_at, ext_get_or}
use Rattle.index.specs.Layout.{res_of, Valid}
use Rattle.index.proofs.View.{packed}
use Rattle.descent.specs.Descendants.{Descendant, count_of, Listing}
use Rattle.descent.specs.Positions.{child_at, position_of, tab, listing}
use Rattle.descent.proofs.Strings.{digit_used}
use Rattle.descent.proofs.Tab.{length_tab}
use Rattle.descent.proofs.Exact.{sound, later, complete}

pub get_or_tab : (f : ℕ → ℕ) (k p : ℕ) → p < k → get_or (tab f k) p 0 ≡ f p
unfolding tab
get_or_tab f zero p h = absurd (not-suc-le-zero h)
get_or_tab f (suc k) p h =
    ⊎_elim
    (λ (q : p ≡ k). get_or_at (tab f k) (f k) [] 0 p (length_tab f k ∙ sym q) ∙ ap f (sym q))
    (λ l. get_or-append (tab f k) (f k ∷ []) 0 p (subst (λ (z : ℕ). p < z) (sym (length_tab f k)) l) ∙ get_or_tab f k p l)
    (eq-or-lt_of_le (le_of_suc-le-suc h))

pub length_listing : (n t : ℕ) → length (listing n t) ≡ count_of n t
unfolding listing
length_listing n t = length_tab (child_at n t) (count_of n t)

-- child at p is element p of the listing
pub listing_at : (n t p : ℕ) → p < count_of n t → get_or (listing n t) p 0 ≡ child_at n t p
unfolding listing
listing_at n t p h = get_or_tab (child_at n t) (count_of n t) p h

pub whole : (n t : ℕ) → n < 2 ^ 64 → Valid n → res_of n ≤ t → t ≤ 15 → Listing n t (listing n t)
whole n t h v lo hi =
    let e = length_listing n t in
    record {
      ascending = λ p q g u. let w : q < count_of n t = omega arith in rw (listing_at n t p (omega arith), listing_at n t q w) (later n t h v lo hi p q g w);
      only = λ p u. let w : p < count_of n t = omega arith in rw (listing_at n t p w) (sound n t h v lo hi p w);
      every = λ y d. let c = complete n t h v lo hi y d in (position_of n y, rw e c.0, listing_at n t (position_of n y) c.0 ∙ c.1);
    }

-- a map that keeps the order of the numbers below k falls nowhere
climbs : (k : ℕ) (f : (p : ℕ) → p < k → ℕ) → ((p q : ℕ) (hp : p < k) (hq : q < k) → p < q → f p hp < f q hq) → (p : ℕ) (hp : p < k) → p ≤ f p hp
climbs k f up zero hp = omega arith
climbs k f up (suc p) hp = let l : p < k = omega arith in omega (arith, climbs k f up p l, up p (suc p) l hp (omega arith))

module _ (n t : ℕ) (k l : List ℕ) (a : Listing n t k) (b : Listing n t l) where
  -- where l holds the element p of k
  at : (p : ℕ) → p < length k → ℕ
  at p h = (b.every (get_or k p 0) (a.only p h)).0

  at_under : (p : ℕ) (h : p < length k) → at p h < length l
  unfolding at
  at_under p h = (b.every (get_or k p 0) (a.only p h)).1

  at_same : (p : ℕ) (h : p < length k) → get_or l (at p h) 0 ≡ get_or k p 0
  unfolding at
  at_same p h = (b.every (get_or k p 0) (a.only p h)).2

  at_up : (p q : ℕ) (hp : p < length k) (hq : q < length k) → p < q → at p hp < at q hq
  at_up p q hp hq g =
      elim (dec_le (at q hq) (at p hp)) [
        | yes w ↦ absurd (⊎_elim
            (λ (e : at q hq ≡ at p hp). let z : get_or k q 0 ≡ get_or k p 0 = sym (at_same q hq) ∙ ap (λ (i : ℕ). get_or l i 0) e ∙ at_same p hp in omega (arith, a.ascending p q g hq))
            (λ (s : at q hq < at p hp). omega (arith, b.ascending (at q hq) (at p hp) s (at_under p hp), at_same p hp, at_same q hq, a.ascending p q g hq))
            (eq-or-lt_of_le w))
        | no w ↦ omega arith
      ]

  pub at_least : (p : ℕ) → p < length k → p < length l
  at_least p h = omega (arith, climbs (length k) at at_up p h, at_under p h)

-- and no second list is one
pub only_listing : (n t : ℕ) (k l : List ℕ) → Listing n t k → Listing n t l → k ≡ l
only_listing n t k l a b = ext_get_or 0 k l long same
  where
    long : length k ≡ length l
    long = omega_eq (length k) (length l) (at_least n t k l a b) (at_least n t l k b a)
      where
        omega_eq : (x y : ℕ) → ((p : ℕ) → p < x → p < y) → ((p : ℕ) → p < y → p < x) → x ≡ y
        omega_eq zero zero f g = refl
        omega_eq zero (suc y) f g = absurd (not-suc-le-zero (g 0 (omega arith)))
        omega_eq (suc x) zero f g = absurd (not-suc-le-zero (f 0 (omega arith)))
        omega_eq (suc x) (suc y) f g = let p = f x (omega arith) in let q = g y (omega arith) in omega arith

    same : (p : ℕ) → p < length k → get_or k p 0 ≡ get_or l p 0
    same p h =
        let q : ℕ = at n t k l a b p h in
        let hq : q < length l = at_under n t k l a b p h in
        let e : get_or l q 0 ≡ get_or k p 0 = at_same n t k l a b p h in
        let low : p ≤ q = climbs (length k) (at n t k l a b) (at_up n t k l a b) p h in
        let r : ℕ = at n t l k b a q hq in
        let f : get_or k r 0 ≡ get_or l q 0 = at_same n t l k b a q hq in
        let high : q ≤ r = climbs (length l) (at n t l k b a) (at_up n t l k b a) q hq in
        let z : r ≡ p = level r p (at_under n t l k b a q hq) h (f ∙ e) in
        let z' : q ≡ p = omega arith in
        sym e ∙ ap (λ (i : ℕ). get_or l i 0) z'
      where
        level : (r p : ℕ) → r < length k → p < length k → get_or k r 0 ≡ get_or k p 0 → r ≡ p
        level r p hr hp e = elim (dec_le r p) [ yes w ↦ ⊎_elim (λ (s : r ≡ p). s) (λ g. absurd (omega (arith, a.ascending r p g hp))) (eq-or-lt_of_le w) | no w ↦ absurd (w (absurd (omega (arith, a.ascending p r (omega arith) hr)))) ]

-- a listing is as long as the count
pub count_listing : (n t : ℕ) (l : List ℕ) → n < 2 ^ 64 → Valid n → res_of n ≤ t → t ≤ 15 → Listing n t l → length l ≡ count_of n t
count_listing n t l h v lo hi a = ap length (only_listing n t l (listing n t) a (whole n t h v lo hi)) ∙ length_listing n t

-- at n = 0 it is the cell
pub listing_self : (n : ℕ) → n < 2 ^ 64 → Valid n → listing n (res_of n) ≡ n ∷ []
listing_self n h v = only_listing n (res_of n) (listing n (res_of n)) (n ∷ []) (whole n (res_of n) h v (omega arith) (omega arith)) self
  where
    self : Listing n (res_of n) (n ∷ [])
    self =
        record {
          ascending = λ p q g u. absurd (omega arith);
          only = λ p u. let z : p ≡ 0 = omega arith in subst (λ (i : ℕ). Descendant n (res_of n) (get_or (n ∷ []) i 0)) (sym z) (record { fits = h; fine = refl; base = refl; lead = λ r a b. refl; valid = v });
          every = λ y d. (0, omega arith, lonely y d);
        }
      where
        lonely : (y : ℕ) → Descendant n (res_of n) y → n ≡ y
        lonely y d = sym (packed n h v) ∙ rw (← d.base, ← (digit_used y n (res_of n) d.lead), ← d.fine) (packed y d.fits d.valid)
