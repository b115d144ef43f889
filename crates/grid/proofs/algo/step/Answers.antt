-- Each way through the code is a way through the definition, by the laws of `Steps`.
use Rattle.std.proofs.Common.{◌≡◌, ℕ, ◌^◌, ◌<◌, Bool, true, false, true≢false, ◌⊎◌, inl, inr, ◌&&◌, eqb, eq-eqb, ne_eqb, map, sym, ◌∙◌, rules}
use Rattle.std.proofs.lemmas.Bool.{and_parts, eqb-true}
use Rattle.plane.specs.Directions.{turns}
use Rattle.index.specs.Layout.{res_of, base_of, first_of, is_pentagonal, Valid}
use Rattle.index.specs.View.{used, pack, first}
use Rattle.index.specs.Refusals.{answered, refused}
use Rattle.index.specs.Written.{WithDigits}
use Rattle.index.proofs.View.{first_used, pack_valid}
use Rattle.walks.specs.Walks.{walked_of, carry_of}
use Rattle.grid.specs.Steps.{inside, leaves, step_of}
use Rattle.grid.proofs.Steps.{olds, news, leaving, staying, refusing, turning_ccw, turning_cw, fit_news, fit_turned, walked_rest, walked_first, walked_turned}
use Rattle.grid.proofs.algo.step.Goals as goal
use Rattle.grid.proofs.algo.step.Goals.{After-is_deleted, After-first_axe-first, then-ccw, else-ccw}

left : (n way e v : ℕ) → e ≡ carry_of n way → v ≡ e → (v ≡ 0 → ⊥) → answered (leaves e) ≡ step_of n way
left n way e v ee ev f = rw ee (sym (leaving n way (λ q. f (ev ∙ ee ∙ q))))

-- nothing is left over, and y is the walk's number; t says whether its first digit is deleted
record Walk (n way y : ℕ) (t : Bool) : Type 0 where
  cell : Valid n
  fits : n < 2 ^ 64
  small : way < 7
  number : y ≡ walked_of n way
  none : carry_of n way ≡ 0
  test : t ≡ (is_pentagonal (base_of n) && eqb (first_of y (res_of y)) 1)

module _ (n way y : ℕ) (t : Bool) (w : Walk n way y t) where
  new_first : first_of y (res_of y) ≡ first (news n way)
  new_first = rw w.number (walked_first n way w.cell w.small)

  keeps : t ≡ false → is_pentagonal (base_of n) ≡ true → first (news n way) ≡ 1 → ⊥
  keeps f p g = true≢false (sym (w.test ∙ rw (p, new_first, g)) ∙ f)

  kept_valid : t ≡ false → Valid y
  unfolding walked_of
  kept_valid f = rw w.number (pack_valid (base_of n) (news n way) (fit_news n way w.cell w.small (keeps f)))

  kept : (m : ℕ) → t ≡ false → m ≡ y → answered (inside m 0) ≡ step_of n way
  unfolding walked_of
  kept m f em = rw (em, w.number) (sym (staying n way w.none (keeps f)))

-- it is; f is the first digit that the cell had
record Deleted (n way y f : ℕ) : Type 0 where
  cell : Valid n
  fits : n < 2 ^ 64
  small : way < 7
  number : y ≡ walked_of n way
  none : carry_of n way ≡ 0
  pentagonal : is_pentagonal (base_of n) ≡ true
  one : first (news n way) ≡ 1
  old : first (olds n) ≡ f

deleted : (n way y : ℕ) (t : Bool) (m f : ℕ) → Walk n way y t → t ≡ true → m ≡ n → f ≡ first_of m (res_of m) → Deleted n way y f
deleted n way y t m f w d em ef =
    let p = and_parts _ _ (sym w.test ∙ d) in
    record {
      cell = w.cell;
      fits = w.fits;
      small = w.small;
      number = w.number;
      none = w.none;
      pentagonal = p.0;
      one = sym (new_first n way y t w) ∙ eqb-true _ _ p.1;
      old = first_used n (res_of n) ∙ sym (rw em at ef);
    }

module _ (n way y f : ℕ) (d : Deleted n way y f) where
  refusal : f ≡ 0 → refused 17 ≡ step_of n way
  refusal q = sym (refusing n way d.none d.pentagonal d.one (d.old ∙ q))

  -- turned once, counter-clockwise where f is 3
  module _ (by : Bool × ℕ) (m : ℕ) (eb : by ≡ (eqb f 3, 1)) (l : m < 2 ^ 64) (em : WithDigits y (map (turns by.0 by.1) (used y (res_of y))) m) where
    turned : m ≡ pack (base_of n) (map (turns (eqb f 3) 1) (news n way))
    turned = walked_turned n way d.cell d.small (eqb f 3) m d.fits l (rw (eb, d.number) at em)

    turned_valid : Valid m
    turned_valid = rw turned (pack_valid (base_of n) (map (turns (eqb f 3) 1) (news n way)) (fit_turned n way d.cell d.small (eqb f 3) d.one))

    stepped : (k u : ℕ) → (f ≡ 0 → ⊥) → k ≡ m → ((f ≡ 3) × (u ≡ 1)) ⊎ ((f ≡ 3 → ⊥) × (u ≡ 5)) → answered (inside k u) ≡ step_of n way
    stepped k u q ek (inl s) = rw (ek, s.1, turned, eq-eqb f 3 s.0) (sym (turning_ccw n way d.none d.pentagonal d.one (d.old ∙ s.0)))
    stepped k u q ek (inr s) = rw (ek, s.1, turned, ne_eqb f 3 s.0) (sym (turning_cw n way d.none d.pentagonal d.one (λ p. q (sym d.old ∙ p)) (λ p. s.0 (sym d.old ∙ p))))

walk : (c : After-is_deleted) → Walk c.args.c c.args.d c.walk-w.result.number c.is_deleted.result
walk c =
    record { cell = search rules; fits = search rules; small = search rules; number = c.walk-w.ensures.0; none = search rules; test = c.is_deleted.ensures }

-- three steps after `is_deleted`
known : (c : After-first_axe-first) → Deleted c.args.c c.args.d c.walk-w.result.number c.first_axe-first.result
known c = deleted _ _ _ _ _ _ (walk c.before.before.before) c.if-not-is_deleted.false c.number.ensures.value c.first_axe-first.ensures

pub returns-then-value-ne0 : goal.returns-then-value-ne0
returns-then-value-ne0 c = left _ _ _ _ c.walk-w.ensures.1 c.value.ensures.value c.if-value-ne0.true

pub new_unchecked-kept-requires : goal.new_unchecked-kept-requires
new_unchecked-kept-requires c = kept_valid _ _ _ _ (walk (goal.at.new_unchecked-kept-requires c).After-is_deleted) c.if-not-is_deleted.true

pub returns-then-not-is_deleted : goal.returns-then-not-is_deleted
returns-then-not-is_deleted c = kept _ _ _ _ (walk (goal.at.returns-then-not-is_deleted c).After-is_deleted) _ c.if-not-is_deleted.true c.new_unchecked-kept.ensures

pub returns-then-first-eq0 : goal.returns-then-first-eq0
returns-then-first-eq0 c = refusal _ _ _ _ (known (goal.at.returns-then-first-eq0 c).After-first_axe-first) c.if-first-eq0.true

pub turn_digits-requires : goal.turn_digits-requires
turn_digits-requires c = rw c.walk-w.ensures.0 (walked_rest c.args.c c.args.d (search rules) (search rules))

pub new_unchecked-turned-requires : goal.new_unchecked-turned-requires
new_unchecked-turned-requires c =
    turned_valid _ _ _ _ (known (goal.at.new_unchecked-turned-requires c).After-first_axe-first) _ _ c.new_unchecked.ensures c.turn_digits.type_inv c.turn_digits.ensures

pub returns : goal.returns
returns c =
    stepped _ _ _ _ (known (goal.at.returns c).After-first_axe-first) _ _ c.new_unchecked.ensures c.turn_digits.type_inv c.turn_digits.ensures _ _ c.if-first-eq0.false c.new_unchecked-turned.ensures
    (elim c.if-ccw.branch [ then-ccw w ↦ inl (w.if-ccw.true, w.turn-is) | else-ccw w ↦ inr (w.if-ccw.false, w.turn-is) ])
