-- Rules that are tried in order: a refusal is given exactly where it is the first met, and the answer exactly where all is clear. Assumes nothing.
use Rattle.std.proofs.Common.{◌≡◌, ℕ, ◌≤◌, Bool, true, false, cond, eqb, List, [], ◌∷◌, ◌++◌, sym, refl, ap, inl, inr, arith, ne_eqb}
use Rattle.index.specs.Refusals.{Rule, ◌when◌, Outcome, answered, refused, judged, Clear, Met}

module _ {A : Type 0} where
  pub past : (k : ℕ) (t : Bool) (rules : List Rule) (a : A) → t ≡ false → judged ((k when t) ∷ rules) a ≡ judged rules a
  unfolding judged
  past k t rules a e = rw e

  pub hit : (k : ℕ) (t : Bool) (rules : List Rule) (a : A) → t ≡ true → judged ((k when t) ∷ rules) a ≡ refused k
  unfolding judged
  hit k t rules a e = rw e

  pub none_answered : (a : A) → judged [] a ≡ answered a
  unfolding judged
  none_answered a = refl

  -- a test before others, where what they come to is the number of a refusal, at most m, or 0; the others need only be right where it fails
  pub numbered : (m j k k' : ℕ) (t t' : Bool) (rules : List Rule) (a : A) → 1 ≤ j → j ≤ m → k' ≡ cond t' j k → t' ≡ t →
      (t ≡ false → (k ≤ m) × (judged rules a ≡ cond (eqb k 0) (answered a) (refused k))) →
      (k' ≤ m) × (judged ((j when t) ∷ rules) a ≡ cond (eqb k' 0) (answered a) (refused k'))
  unfolding judged
  numbered m j k k' true t' rules a l u e q h = rw (e, q, ne_eqb j 0 (λ p. omega arith)) (u, refl)
  numbered m j k k' false t' rules a l u e q h = rw (e, q) (h refl)

  -- a refusal's number, or 0
  pub number_answered : (a : A) (k : ℕ) → k ≡ 0 → cond (eqb k 0) (answered a) (refused k) ≡ answered a
  number_answered a k e = rw e

  pub number_refused : (a : A) (k : ℕ) → (k ≡ 0 → ⊥) → cond (eqb k 0) (answered a) (refused k) ≡ refused k
  number_refused a k h = rw (ne_eqb k 0 h)

  pub refused_inj : {j k : ℕ} → ◌≡◌ {A = Outcome A} (refused j) (refused k) → j ≡ k
  refused_inj e = cc

  pub answered_inj : {a b : A} → ◌≡◌ {A = Outcome A} (answered a) (answered b) → a ≡ b
  answered_inj e = cc

  pub never : {a : A} {k : ℕ} → ◌≡◌ {A = Outcome A} (answered a) (refused k) → ⊥
  never e = let z : ◌≡◌ {A = ℕ} 0 1 = cc in omega arith

  pub clear_answered : (rules : List Rule) (a : A) → Clear rules → judged rules a ≡ answered a
  unfolding judged
  clear_answered [] a c = refl
  clear_answered ((k when t) ∷ rules) a c = rw c.0 (clear_answered rules a c.1)

  pub answered_clear : (rules : List Rule) (a b : A) → judged rules a ≡ answered b → Clear rules
  unfolding judged
  answered_clear [] a b e = tt
  answered_clear ((k when true) ∷ rules) a b e = absurd (never (sym e))
  answered_clear ((k when false) ∷ rules) a b e = (refl, answered_clear rules a b e)

  pub answered_same : (rules : List Rule) (a b : A) → judged rules a ≡ answered b → a ≡ b
  unfolding judged
  answered_same [] a b e = cc
  answered_same ((k when true) ∷ rules) a b e = absurd (never (sym e))
  answered_same ((k when false) ∷ rules) a b e = answered_same rules a b e

  pub met_refused : (rules : List Rule) (a : A) (k : ℕ) → Met k rules → judged rules a ≡ refused k
  unfolding judged
  met_refused [] a k m = absurd m
  met_refused ((j when t) ∷ rules) a k (inl m) = rw (m.0, m.1)
  met_refused ((j when t) ∷ rules) a k (inr m) = rw m.0 (met_refused rules a k m.1)

  pub refused_met : (rules : List Rule) (a : A) (k : ℕ) → judged rules a ≡ refused k → Met k rules
  unfolding judged
  refused_met [] a k e = absurd (never e)
  refused_met ((j when true) ∷ rules) a k e = inl (refl, refused_inj e)
  refused_met ((j when false) ∷ rules) a k e = inr (refl, refused_met rules a k e)

-- rules after others: what the first ones refuse is refused, and what they let through the later ones judge
pub early : {A B : Type 0} (rules more : List Rule) (a : A) (b : B) (k : ℕ) → judged rules a ≡ refused k → judged (rules ++ more) b ≡ refused k
unfolding judged
early [] more a b k e = absurd (never e)
early ((j when true) ∷ rules) more a b k e = ap refused (refused_inj e)
early ((j when false) ∷ rules) more a b k e = early rules more a b k e

pub cleared : {B : Type 0} (rules more : List Rule) (b : B) → Clear rules → judged (rules ++ more) b ≡ judged more b
unfolding judged
cleared [] more b c = refl
cleared ((j when t) ∷ rules) more b c = rw c.0 (cleared rules more b c.1)

pub clear_parts : (rules more : List Rule) → Clear (rules ++ more) → Clear rules × Clear more
clear_parts [] more c = (tt, c)
clear_parts ((j when t) ∷ rules) more c = let p = clear_parts rules more c.1 in ((c.0, p.0), p.1)

-- none of the rules has the number k
abbrev pub Others : ℕ → List Rule → Type 0
Others k [] = Unit {0}
Others k ((j when t) ∷ rules) = (j ≡ k → ⊥) × Others k rules

-- a refusal that none of the first rules has comes of the later ones, and no test of the first holds
pub later : (k : ℕ) (rules more : List Rule) → Others k rules → Met k (rules ++ more) → Clear rules × Met k more
later k [] more o m = (tt, m)
later k ((j when t) ∷ rules) more o (inl m) = absurd (o.0 m.1)
later k ((j when t) ∷ rules) more o (inr m) = let r = later k rules more o.1 m.1 in ((m.0, r.0), r.1)

pub joined : (rules more : List Rule) → Clear rules → Clear more → Clear (rules ++ more)
joined [] more c d = d
joined ((j when t) ∷ rules) more c d = (c.0, joined rules more c.1 d)
