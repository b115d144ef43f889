-- Runs and copies that go on with a listing's first elements. Assumes nothing.
use Rattle.std.proofs.Common.{◌≡◌, ℕ, zero, suc, ◌+◌, ◌-◌, ◌*◌, ◌^◌, ◌<◌, ◌≤◌, List, ◌++◌, length, get_or, take, drop, set, sym, refl, ap, ◌∙◌, subst, mod-eq_of_lt, arith, length-set, drop-drop, drop_at}
use Rattle.std.proofs.lemmas.List.{set-append_left, set-append_right, length-take-le}
use borrow.Rule.Slice.PartMut.{mid_of, mid_len, put_mid, put_same}
use lib.ListN.{get_or-append}
use lib.Seq.{drop-append-add}
use Rattle.descent.specs.Positions.{tab}
use Rattle.listing.specs.Copies.{copies, ramp, stairs}
use Rattle.descent.proofs.Tab.{length_tab, tab_none, tab_more}
use Rattle.descent.proofs.Whole.{get_or_tab}

-- a write at j in the part is one at i + j
pub set_part : (l p : List ℕ) (i w j v : ℕ) → i ≤ length l → j < length p → put_mid i w l (set p j v) ≡ set (put_mid i w l p) (i + j) v
set_part l p i w j v h g =
    let z : i + j - i ≡ j = omega arith in
    let r = drop w (drop i l) in
    sym (set-append_right (take i l) (p ++ r) i (i + j) v (length-take-le i l h) (omega arith) ∙ ap (λ (x : List ℕ). take i l ++ x) (rw z (set-append_left p r j v g)))

length_ramp : (l : List ℕ) (i q s k : ℕ) → length (ramp l i q s k) ≡ length l
unfolding ramp
length_ramp l i q s zero = refl
length_ramp l i q s (suc k) = simp length-set (length_ramp l i q s k)

-- a ramp over a part, from i up to e
module _ (l p : List ℕ) (i e q s : ℕ) (o : i ≤ e) (h : e ≤ length l) where
  ramp_up : (k : ℕ) → k ≤ e - i → put_mid i (e - i) l (ramp (mid_of i (e - i) l) 0 q s k) ≡ ramp l i q s k
  unfolding ramp
  ramp_up zero f = put_same i (e - i) l
  ramp_up (suc k) f =
      let z : 0 + k ≡ k = omega arith in
      rw z (set_part l (ramp (mid_of i (e - i) l) 0 q s k) i (e - i) k (q + k * s) (omega arith) (omega (arith, length_ramp (mid_of i (e - i) l) 0 q s k, mid_len i e l h)))
      ∙ ap (λ (x : List ℕ). set x (i + k) (q + k * s)) (ramp_up k (omega arith))

  pub ramp_part : (k : ℕ) → e ≡ i + k → p ≡ ramp (mid_of i (e - i) l) 0 q s (length (mid_of i (e - i) l)) → put_mid i (e - i) l p ≡ ramp l i q s k
  ramp_part k w g =
      let z : e - i ≡ k = omega arith in
      ap (put_mid i (e - i) l) (g ∙ ap (ramp (mid_of i (e - i) l) 0 q s) (mid_len i e l h)) ∙ ramp_up (e - i) (omega arith) ∙ ap (ramp l i q s) z

-- the run after j of them
pub stairs_part : (b l p : List ℕ) (i j q s v a e : ℕ) → l ≡ stairs b i q s j → v ≡ q + j * (8 * s) → a ≡ i + 7 * j → e ≡ a + 7 → e ≤ length l →
    p ≡ ramp (mid_of a (e - a) l) 0 v s (length (mid_of a (e - a) l)) → put_mid a (e - a) l p ≡ stairs b i q s (suc j)
unfolding stairs
stairs_part b l p i j q s v a e el ev ea ee h g =
    ramp_part l p a e v s (omega arith) h 7 ee g ∙ (λ x. ramp (el x) (ea x) (ev x) s 7)

length_copies : (l : List ℕ) (a k d s : ℕ) → length (copies l a k d s) ≡ length l
unfolding copies
length_copies l a zero d s = refl
length_copies l a (suc k) d s = simp length-set (length_copies l a k d s)

pub copies_length : (l l' : List ℕ) (a k d s : ℕ) → l' ≡ copies l a k d s → length l' ≡ length l
copies_length l l' a k d s e = ap length e ∙ length_copies l a k d s

module _ (f : ℕ → ℕ) (b : List ℕ) where
  pub put : (v : ℕ) → 0 < length b → v ≡ f 0 → set b 0 v ≡ tab f 1 ++ drop 1 b
  put v h e = rw (← (tab_none f b)) at (tab_more f b 0 v h e)

  copied_k : (a k d s : ℕ) → 1 ≤ d → d ≤ a → a + k ≤ length b → ((p : ℕ) → f p < 2 ^ 64) → ((p : ℕ) → a ≤ p → p < a + k → f p ≡ f (p - d) + s) →
      copies (tab f a ++ drop a b) a k d s ≡ tab f (a + k) ++ drop (a + k) b
  unfolding copies
  copied_k a zero d s g h l w e = let z : a + 0 ≡ a = omega arith in rw z
  copied_k a (suc k) d s g h l w e =
      let ih = copied_k a k d s g h (omega arith) w (λ p y z. e p y (omega arith)) in
      let q : a + k - d < a + k = omega arith in
      let r : get_or (tab f (a + k) ++ drop (a + k) b) (a + k - d) 0 ≡ f (a + k - d) =
      get_or-append (tab f (a + k)) (drop (a + k) b) 0 (a + k - d) (subst (λ (z : ℕ). a + k - d < z) (sym (length_tab f (a + k))) q) ∙ get_or_tab f (a + k) (a + k - d) q in
      let v : f (a + k) ≡ f (a + k - d) + s = e (a + k) (omega arith) (omega arith) in
      let n : a + suc k ≡ a + k + 1 = omega arith in
      rw (ih, n) (tab_more f b (a + k) _ (omega arith) (rw (r, ← v) (mod-eq_of_lt (w (a + k)))))

  module _ (l : List ℕ) where
    pub copied : (a e d s : ℕ) → 1 ≤ d → d ≤ a → a ≤ e → e ≤ length b → ((p : ℕ) → f p < 2 ^ 64) → ((p : ℕ) → a ≤ p → p < e → f p ≡ f (p - d) + s) →
        l ≡ tab f a ++ drop a b → copies l a (e - a) d s ≡ tab f e ++ drop e b
    copied a e d s g h o m w v q =
        let z : a + (e - a) ≡ e = omega arith in
        ap (λ (x : List ℕ). copies x a (e - a) d s) q ∙ rw z at (copied_k a (e - a) d s g h (rw z m) w (rw z v))

    pub ramped : (i q s k : ℕ) → i + k ≤ length b → ((j : ℕ) → j < k → q + j * s ≡ f (i + j)) → l ≡ tab f i ++ drop i b → ramp l i q s k ≡ tab f (i + k) ++ drop (i + k) b
    unfolding ramp
    ramped i q s zero h g e = let z : i + 0 ≡ i = omega arith in rw z e
    ramped i q s (suc k) h g e =
        let ih = ramped i q s k (omega arith) (λ j u. g j (omega arith)) e in
        let n : i + suc k ≡ i + k + 1 = omega arith in
        rw (ih, n) (tab_more f b (i + k) (q + k * s) (omega arith) (g k (omega arith)))

  pub staired : (l : List ℕ) (i q s k : ℕ) → i + 7 * k ≤ length b → ((x j : ℕ) → x < k → j < 7 → q + x * (8 * s) + j * s ≡ f (i + 7 * x + j)) →
      l ≡ tab f i ++ drop i b → stairs l i q s k ≡ tab f (i + 7 * k) ++ drop (i + 7 * k) b
  unfolding stairs
  staired l i q s zero h g e = let z : i + 7 * 0 ≡ i = omega arith in rw z e
  staired l i q s (suc k) h g e =
      let ih = staired l i q s k (omega arith) (λ x j u w. g x j (omega arith) w) e in
      let n : i + 7 * suc k ≡ i + 7 * k + 7 = omega arith in
      rw n (ramped (stairs l i q s k) (i + 7 * k) (q + k * (8 * s)) s 7 (omega arith) (λ j w. g k j (omega arith) w) ih)

  module _ (l : List ℕ) (k : ℕ) (e : l ≡ tab f k ++ drop k b) where
    -- one call after another
    pub again : l ≡ tab f k ++ drop k l
    again = e ∙ ap (λ (x : List ℕ). tab f k ++ x) (sym (ap (drop k) e ∙ drop_at (tab f k) (drop k b) k (length_tab f k)))

    later : (n : ℕ) → drop (k + n) l ≡ drop (k + n) b
    later n = ap (drop (k + n)) e ∙ subst (λ (z : ℕ). drop (z + n) (tab f k ++ drop k b) ≡ drop n (drop k b)) (length_tab f k) (drop-append-add (tab f k) (drop k b) n) ∙ drop-drop n k b

    pub then : (l' : List ℕ) (n : ℕ) → k ≤ n → l' ≡ tab f n ++ drop n l → l' ≡ tab f n ++ drop n b
    then l' n h g =
        let z : k + (n - k) ≡ n = omega arith in
        g ∙ ap (λ (x : List ℕ). tab f n ++ x) (rw z at (later (n - k)))
