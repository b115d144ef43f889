-- What the step's answers mean: an answer inside is a cell of the same base cell and resolution; no origin but those of first digit 3 or 5, or the
-- pentagon itself, reaches the deleted digits; refusal 17 is given exactly for a pentagon of resolution 1 or finer in direction 1; resolution 0 is
-- always left. Assumes nothing.
use mathlib.Core.Path.{◌≡◌, refl, sym, ap, ◌∙◌, subst}
use mathlib.Core.Bool.{Bool, true, false, true≢false}
use mathlib.Core.Logic.{◌⊎◌, inl, inr, ⊎_elim, ◌↔◌}
use mathlib.Core.List.{List, ◌∷◌, map}
use Prim.Native.Nat.{ℕ, zero, suc, ◌<◌, ◌≤◌}
use native.Mathlib.Nat.{eq-zero-or-pos}
use native.Mathlib.Omega.{arith}
use lib.Dec.{eqb, lit<}
use lib.ListN.{length}
use borrow.Author.Tests.{eqb-true, eqb-false}
use Rattle.plane.specs.Directions.{turns}
use Rattle.plane.specs.Strings.{Digits, odd}
use Rattle.index.specs.Layout.{digit, base_of, res_of, is_pentagonal, first_of, Valid}
use Rattle.index.specs.View.{used, pack, first, Fit}
use Rattle.index.specs.Refusals.{Outcome, answered, refused}
use Rattle.turns.proofs.Turning.{length_turned}
use Rattle.index.proofs.View.{fit, first_used, pack_valid, pack_base, pack_res}
use Rattle.walks.specs.Tables.{new_digit, adjustment}
use Rattle.walks.specs.Walks.{walked, left_over, carry_of}
use Rattle.grid.specs.Steps.{Answer, inside, leaves, step_of}
use Rattle.walks.proofs.Tables.{from_zero}
use Rattle.walks.proofs.Walks.{walked_zero}
use Rattle.grid.proofs.Reached.{origins, from_zeros}
use Rattle.grid.proofs.Steps.{olds, news, leaving, staying, refusing, turning_ccw, turning_cw, fit_news, fit_turned, news_length}

decide : (x y : ℕ) → Dec (x ≡ y)
decide x y = go (eqb x y) refl
  where
    go : (b : Bool) → eqb x y ≡ b → Dec (x ≡ y)
    go true e = yes (eqb-true x y e)
    go false e = no (eqb-false x y e)

-- an answer is one of the kinds
pub within : (x : Outcome Answer) (m t k u : ℕ) → x ≡ answered (inside m t) → x ≡ answered (inside k u) → (m ≡ k) × (t ≡ u)
within x m t k u p q = (cc, cc)

pub never : {A : Type 0} (x : Outcome Answer) (m t : ℕ) → x ≡ answered (inside m t) → ((k : ℕ) → x ≡ answered (leaves k) → A) × ((k : ℕ) → x ≡ refused k → A)
never x m t p = (λ k q. absurd (let z : ◌≡◌ {A = ℕ} 0 1 = cc in omega arith), λ k q. absurd (let z : ◌≡◌ {A = ℕ} 0 1 = cc in omega arith))

-- the five ways through the step
pub data Case (n way : ℕ) : Type 0 where
  left : (carry_of n way ≡ 0 → ⊥) → step_of n way ≡ answered (leaves (carry_of n way)) → Case n way
  stayed : carry_of n way ≡ 0 → (is_pentagonal (base_of n) ≡ true → first (news n way) ≡ 1 → ⊥) → step_of n way ≡ answered (inside (pack (base_of n) (news n way)) 0) → Case n way
  deleted : carry_of n way ≡ 0 → is_pentagonal (base_of n) ≡ true → first (news n way) ≡ 1 → first (olds n) ≡ 0 → step_of n way ≡ refused 17 → Case n way
  ccw : carry_of n way ≡ 0 → is_pentagonal (base_of n) ≡ true → first (news n way) ≡ 1 → first (olds n) ≡ 3 → step_of n way ≡ answered (inside (pack (base_of n) (map (turns true 1) (news n way))) 1) → Case n way
  cw : carry_of n way ≡ 0 → is_pentagonal (base_of n) ≡ true → first (news n way) ≡ 1 → first (olds n) ≡ 5 → step_of n way ≡ answered (inside (pack (base_of n) (map (turns false 1) (news n way))) 5) → Case n way

module _ (n way : ℕ) (v : Valid n) (hw : way < 7) where
  -- no other origin reaches the deleted digits
  pub no_other : carry_of n way ≡ 0 → is_pentagonal (base_of n) ≡ true → first (news n way) ≡ 1 → (first (olds n) ≡ 0) ⊎ ((first (olds n) ≡ 3) ⊎ (first (olds n) ≡ 5))
  unfolding carry_of
  no_other z p g = let f = fit n v in origins (olds n) way f.digits hw z g (f.kept p)

  reached : carry_of n way ≡ 0 → is_pentagonal (base_of n) ≡ true → first (news n way) ≡ 1 → (first (olds n) ≡ 0) ⊎ ((first (olds n) ≡ 3) ⊎ (first (olds n) ≡ 5)) → Case n way
  reached z p g (inl e) = deleted z p g e (refusing n way z p g e)
  reached z p g (inr (inl e)) = ccw z p g e (turning_ccw n way z p g e)
  reached z p g (inr (inr e)) = cw z p g e (turning_cw n way z p g (λ q. omega arith) (λ q. omega arith))

  first_one : carry_of n way ≡ 0 → is_pentagonal (base_of n) ≡ true → Dec (first (news n way) ≡ 1) → Case n way
  first_one z p (yes g) = reached z p g (no_other z p g)
  first_one z p (no f) = stayed z (λ q. f) (staying n way z (λ q. f))

  pentagon_base : carry_of n way ≡ 0 → (b : Bool) → is_pentagonal (base_of n) ≡ b → Case n way
  pentagon_base z true p = first_one z p (decide (first (news n way)) 1)
  pentagon_base z false p = let f : is_pentagonal (base_of n) ≡ true → first (news n way) ≡ 1 → ⊥ = λ q g. true≢false (sym q ∙ p) in stayed z f (staying n way z f)

  carry_zero : Dec (carry_of n way ≡ 0) → Case n way
  carry_zero (yes z) = pentagon_base z (is_pentagonal (base_of n)) refl
  carry_zero (no f) = left f (leaving n way f)

  pub cases : Case n way
  cases = carry_zero (decide (carry_of n way) 0)

  -- an answer inside
  pub record In (m : ℕ) : Type 0 where
    pub cell : Valid m
    pub base : base_of m ≡ base_of n
    pub res : res_of m ≡ res_of n

  packs : (m : ℕ) (es : List ℕ) → Fit (base_of n) es → length es ≡ res_of n → pack (base_of n) es ≡ m → In m
  packs m es f l e =
      subst In e (record { cell = pack_valid (base_of n) es f; base = pack_base (base_of n) es f; res = pack_res (base_of n) es f ∙ l })

  pub step_inside : (m t : ℕ) → step_of n way ≡ answered (inside m t) → In m
  step_inside m t e = go cases
    where
      go : Case n way → In m
      go (left f s) = (never (step_of n way) m t e).0 (carry_of n way) s
      go (stayed z k s) = packs m (news n way) (fit_news n way v hw k) (news_length n way v hw) (within (step_of n way) _ 0 m t s e).0
      go (deleted z p g f s) = (never (step_of n way) m t e).1 17 s
      go (ccw z p g f s) = packs m (map (turns true 1) (news n way)) (fit_turned n way v hw true g) (length_turned true 1 (news n way) ∙ news_length n way v hw) (within (step_of n way) _ 1 m t s e).0
      go (cw z p g f s) = packs m (map (turns false 1) (news n way)) (fit_turned n way v hw false g) (length_turned false 1 (news n way) ∙ news_length n way v hw) (within (step_of n way) _ 5 m t s e).0

-- a string of zeros, in direction 1
all_zero : (d : ℕ) (ds : List ℕ) → first (d ∷ ds) ≡ 0 → (d ≡ 0) × (first ds ≡ 0)
unfolding first
all_zero d ds e = go (eqb (first ds) 0) refl
  where
    go : (b : Bool) → eqb (first ds) 0 ≡ b → (d ≡ 0) × (first ds ≡ 0)
    go true q = (rw q at e, eqb-true (first ds) 0 q)
    go false q = absurd (eqb-false (first ds) 0 q (rw q at e))

zeros : (d : ℕ) (ds : List ℕ) → first (d ∷ ds) ≡ 0 → Digits (d ∷ ds) → (left_over (d ∷ ds) 1 ≡ 0) × (first (walked (d ∷ ds) 1) ≡ 1)
unfolding first
zeros d ds e h =
    let z = all_zero d ds e in
    let o = odd (suc (length ds)) in
    let f = from_zero o 1 (lit< tt) in
    let s = walked_zero ds h.1 in
    let a : adjustment o d 1 ≡ 0 = ap (λ (x : ℕ). adjustment o x 1) z.0 ∙ f.1 in
    let n : new_digit o d 1 ≡ 1 = ap (λ (x : ℕ). new_digit o x 1) z.0 ∙ f.0 in
    (ap (left_over ds) a ∙ s.1, rw (n, a, s.0, z.1))

-- resolution 0 is always left
off : (n r way : ℕ) → r ≡ 0 → left_over (used n r) way ≡ way
unfolding used
off n zero way q = refl
off n (suc r) way q = absurd (omega arith)

pub step_coarsest : (n way : ℕ) → 1 ≤ way → res_of n ≡ 0 → step_of n way ≡ answered (leaves way)
unfolding carry_of
step_coarsest n way l e =
    let c : carry_of n way ≡ way = off n (res_of n) way e in
    leaving n way (λ q. omega arith) ∙ ap (λ (x : ℕ). answered (leaves x)) c

-- refusal 17
zeros_walked : (n r : ℕ) → 1 ≤ r → first (used n r) ≡ 0 → Digits (used n r) → (left_over (used n r) 1 ≡ 0) × (first (walked (used n r) 1) ≡ 1)
unfolding used
zeros_walked n zero l e h = absurd (omega arith)
zeros_walked n (suc r) l e h = zeros (digit n (suc r)) (used n r) e h

-- a pentagon of resolution 1 or finer
pub record Pentagon (n : ℕ) : Type 0 where
  pub base : is_pentagonal (base_of n) ≡ true
  pub zeros : first_of n (res_of n) ≡ 0
  pub finer : 1 ≤ res_of n

finer : (n way : ℕ) → 1 ≤ way → carry_of n way ≡ 0 → 1 ≤ res_of n
unfolding carry_of
finer n way l z = ⊎_elim (λ (q : res_of n ≡ 0). absurd (let c = off n (res_of n) way q in let d = z in omega arith)) (λ (q : 0 < res_of n). q) (eq-zero-or-pos (res_of n))

unrefused : {A : Type 0} (x : Outcome Answer) → x ≡ refused 17 → (w : Answer) → x ≡ answered w → A
unrefused x p w q = absurd (let z : ◌≡◌ {A = ℕ} 0 1 = cc in omega arith)

pub deleted_way : (n way : ℕ) → Valid n → 1 ≤ way → way < 7 → (step_of n way ≡ refused 17) ↔ (Pentagon n × (way ≡ 1))
unfolding carry_of
deleted_way n way v l hw = (
  λ e. go e (cases n way v hw),
  λ p.
      let f = sym (first_used n (res_of n)) in
      let z = zeros_walked n (res_of n) p.0.finer (first_used n (res_of n) ∙ p.0.zeros) (fit n v).digits in
      subst (λ (w : ℕ). step_of n w ≡ refused 17) (sym p.1) (refusing n 1 z.0 p.0.base z.1 (first_used n (res_of n) ∙ p.0.zeros)),
)
  where
    go : step_of n way ≡ refused 17 → Case n way → Pentagon n × (way ≡ 1)
    go e (left f s) = unrefused (step_of n way) e _ s
    go e (stayed z k s) = unrefused (step_of n way) e _ s
    go e (deleted z p g f s) = (
      record { base = p; zeros = sym (first_used n (res_of n)) ∙ f; finer = finer n way l z },
      from_zeros (olds n) way (fit n v).digits hw z g f,
    )
    go e (ccw z p g f s) = unrefused (step_of n way) e _ s
    go e (cw z p g f s) = unrefused (step_of n way) e _ s
