-- One byte more: what it does to the digits of a word, their value and the scanner's state.
use Prim.Native.Nat.{ℕ, ◌+◌, ◌*◌, ◌^◌, ◌≤◌, ◌<◌}
use mathlib.Core.Path.{◌≡◌, refl, sym, ap, ◌∙◌}
use mathlib.Core.Logic.{inl, inr}
use mathlib.Core.Bool.{Bool, true, false, ◌&&◌}
use mathlib.Core.List.{List, [], ◌∷◌, ◌++◌}
use native.Mathlib.Nat.{mul-le-mul_left, mul-le-mul_right, pow-zero, pow-suc}
use native.Mathlib.Omega.{arith}
use lib.Dec.{ltb}
use Rattle.std.proofs.Math.Bool.{and-true, and-false, and_assoc}
use lib.ListN.{length, length-append}
use borrow.Author.Tests.{lt-ltb, le-ltb, ltb-true}
use Rattle.words.specs.Numeral.{digit_of, digits, onward, value}
use Rattle.words.specs.Reading.{Beyond, Within, held}
use Rattle.std.specs.Prelude.{Option, Some, None}
use Rattle.std.specs.Option.{SomeIff}

pub and_both : (s t : Bool) → s && t ≡ true → (s ≡ true) × (t ≡ true)
and_both true t h = (refl, h)
and_both false true h = (h, refl)
and_both false false h = (h, h)

pub digits_snoc : (base : ℕ) (bs : List ℕ) (b : ℕ) → digits base (bs ++ (b ∷ [])) ≡ digits base bs && ltb (digit_of b) base
unfolding digits
digits_snoc base [] b = and-true (ltb (digit_of b) base)
digits_snoc base (a ∷ bs) b =
    ap (λ (t : Bool). ltb (digit_of a) base && t) (digits_snoc base bs b) ∙ sym (and_assoc (ltb (digit_of a) base) (digits base bs) (ltb (digit_of b) base))

pub onward_snoc : (base n : ℕ) (bs : List ℕ) (b : ℕ) → onward base n (bs ++ (b ∷ [])) ≡ onward base n bs * base + digit_of b
unfolding onward
onward_snoc base n [] b = refl
onward_snoc base n (a ∷ bs) b = onward_snoc base (n * base + digit_of a) bs b

pub length_snoc : (bs : List ℕ) (b : ℕ) → length (bs ++ (b ∷ [])) ≡ length bs + 1
length_snoc bs b = length-append bs (b ∷ [])

grows : (n base d : ℕ) → 1 < base → n ≤ n * base + d
grows n base d h = let p : n * 1 ≤ n * base = mul-le-mul_left n (omega arith) in omega arith

module _ (base : ℕ) (bs : List ℕ) (b : ℕ) where
  pub beyond_stays : 1 < base → Beyond base bs → Beyond base (bs ++ (b ∷ []))
  beyond_stays h (inl e) = inl (digits_snoc base bs b ∙ ap (λ (t : Bool). t && ltb (digit_of b) base) e)
  beyond_stays h (inr l) = inr (rw (onward_snoc base 0 bs b) (omega (arith, grows (value base bs) base (digit_of b) h)))

  pub beyond_digit : base ≤ digit_of b → Beyond base (bs ++ (b ∷ []))
  beyond_digit h = inl (digits_snoc base bs b ∙ ap (λ (t : Bool). digits base bs && t) (le-ltb (digit_of b) base h) ∙ and-false (digits base bs))

  module _ (n : ℕ) (w : Within base n bs) where
    value_snoc : value base (bs ++ (b ∷ [])) ≡ n * base + digit_of b
    value_snoc = onward_snoc base 0 bs b ∙ ap (λ (v : ℕ). v * base + digit_of b) w.1

    pub beyond_large : 2 ^ 64 ≤ n * base + digit_of b → Beyond base (bs ++ (b ∷ []))
    beyond_large h = inr (rw value_snoc h)

    pub within_more : digit_of b < base → Within base (n * base + digit_of b) (bs ++ (b ∷ []))
    within_more h =
        (digits_snoc base bs b ∙ ap (λ (t : Bool). t && ltb (digit_of b) base) w.0 ∙ lt-ltb (digit_of b) base h, value_snoc)

-- the value with a digit more, where there is one: it is below 2 ^ 64, or lost
pub held_more : (base n d b : ℕ) (r : Option ℕ) (bs : List ℕ) → SomeIff r (n * base + d < 2 ^ 64) (n * base + d) → (digit_of b < base) × (d ≡ digit_of b) → Within base n bs
    → held base r (bs ++ (b ∷ []))
held_more base n d b None bs s e w = beyond_large base bs b n w (omega (arith, s, e.1))
held_more base n d b (Some m) bs s e w = rw (s.1, e.1) (within_more base bs b n w e.0)

module _ (base : ℕ) (some : 1 < base) where
  -- k digits are below the k-th power
  pub onward_below : (n : ℕ) (bs : List ℕ) → digits base bs ≡ true → onward base n bs < (n + 1) * base ^ length bs
  unfolding digits onward
  onward_below n [] h = rw pow-zero (omega arith)
  onward_below n (b ∷ bs) h =
      let e = and_both (ltb (digit_of b) base) (digits base bs) h in
      let l = ltb-true (digit_of b) base e.0 in
      let step : n * base + digit_of b + 1 ≤ (n + 1) * base = omega arith in
      let p : (n * base + digit_of b + 1) * base ^ length bs ≤ (n + 1) * base * base ^ length bs = mul-le-mul_right (base ^ length bs) step in
      let q = onward_below (n * base + digit_of b) bs e.1 in
      rw pow-suc (omega (arith, p, q))
