-- The scanner's state, step by step, and the numbers that it answers.
use Prim.Native.Nat.{ℕ, suc, ◌+◌, ◌^◌, ◌≤◌, ◌<◌, min}
use mathlib.Core.Path.{◌≡◌, refl, sym, ap, subst, ◌∙◌}
use mathlib.Core.Logic.{inl, inr}
use mathlib.Core.Bool.{Bool, true, false, cond, ◌&&◌}
use mathlib.Core.List.{List, [], ◌∷◌, ◌++◌}
use native.Mathlib.Nat.{pow-le-pow_right}
use native.Mathlib.Omega.{arith}
use Rattle.std.specs.Prelude.{Option, Some, None}
use lib.Dec.{ltb, eqb}
use lib.ListN.{length, take, set, length-set}
use lib.Seq.{take-suc-set, take_all, take-append-le}
use Rattle.std.proofs.Math.Bool.{and-false}
use borrow.Author.Tests.{lt-ltb, le-ltb, le-leb, eqb-true, ne_eqb}
use Rattle.words.specs.Numeral.{digit_of, digits, value, hexadecimal, natural64, minus, bare}
use Rattle.words.specs.Reading.{Beyond, Spells, Begun, Reads, natural}
use Rattle.words.specs.declared.word.Digits.{Digits}
use Rattle.words.specs.declared.word.Word.{Word}
use Rattle.words.proofs.Numerals.{length_snoc, onward_below}

pub natural_beyond : (base : ℕ) (bs : List ℕ) → Beyond base bs → None ≡ natural base bs
natural_beyond base bs (inl e) = rw (e, and-false (ltb 0 (length bs)))
natural_beyond base bs (inr l) = rw (le-ltb (value base bs) (2 ^ 64) l, and-false (ltb 0 (length bs) && digits base bs))

-- 16 hexadecimal digits fit 64 bits
fits_when : (bs : List ℕ) → length bs ≤ 16 → digits 16 bs ≡ true → value 16 bs < 2 ^ 64
fits_when bs h e =
    let p = onward_below 16 (omega arith) 0 bs e in
    let q : 16 ^ length bs ≤ 16 ^ 16 = pow-le-pow_right {n = 16} (omega arith) {i = length bs} {j = 16} h in
    omega (arith, p, q)

agree : (s t u : Bool) (x y : Option ℕ) → (t ≡ true → u ≡ true) → cond (s && t && u) x y ≡ cond (s && t && true) x y
agree false t u x y h = refl
agree true false u x y h = refl
agree true true u x y h = rw (h refl)

pub hexadecimal_short : (bs : List ℕ) → length bs ≤ 16 → natural 16 bs ≡ hexadecimal bs
hexadecimal_short bs h =
    rw (le-leb (length bs) 16 h)
    (agree (ltb 0 (length bs)) (digits 16 bs) (ltb (value 16 bs) (2 ^ 64)) (Some (value 16 bs)) None
    (λ e. lt-ltb (value 16 bs) (2 ^ 64) (fits_when bs h e)))

-- a `-` in front is no digit; without one the word is bare
pub natural_minus : (bs : List ℕ) → minus bs ≡ true → None ≡ natural64 bs
unfolding digits
natural_minus [] h = refl
natural_minus (b ∷ bs) h = natural_beyond 10 (b ∷ bs) (inl (ap (λ (x : ℕ). ltb (digit_of x) 10 && digits 10 bs) (eqb-true b 45 h)))

-- one byte more of a word
module _ (text : List ℕ) (n b : ℕ) (bs : List ℕ) (e : n ≡ min (length bs) 17) (s : Begun text n bs) where
  pub begun_full : 16 ≤ n → Begun text (min (n + 1) 17) (bs ++ (b ∷ []))
  begun_full h =
      let k : 16 ≤ length bs = omega arith in
      let i : length text ≤ n = omega (arith, s.wide) in
      let j : length text ≤ min (n + 1) 17 = omega (arith, s.wide) in
      record {
        wide = s.wide;
        same = take_all (min (n + 1) 17) text j ∙ sym (take_all n text i) ∙ s.same ∙ sym (take-append-le 16 bs (b ∷ []) k);
      }

  pub begun_more : n < 16 → Begun (set text n b) (min (n + 1) 17) (bs ++ (b ∷ []))
  begun_more h =
      let k : length bs ≤ 16 = omega arith in
      let l : length (bs ++ (b ∷ [])) ≤ 16 = omega (arith, length_snoc bs b) in
      let i : min (n + 1) 17 ≡ suc n = omega arith in
      let j : n < length text = omega (arith, s.wide) in
      record {
        wide = length-set text n b ∙ s.wide;
        same =
            ap (λ (x : ℕ). take x (set text n b)) i
            ∙ take-suc-set text n b j
            ∙ ap (λ (xs : List ℕ). xs ++ (b ∷ [])) (s.same ∙ take_all 16 bs k)
            ∙ sym (take_all 16 (bs ++ (b ∷ [])) l);
      }

module _ (w : Word) (b : ℕ) (text : List ℕ) (f : Digits) where
  begun_now : (bs : List ℕ) → Reads w bs → Begun text (min (w.hex.count + 1) 17) (bs ++ (b ∷ [])) → Spells 16 f (bs ++ (b ∷ [])) → Begun text f.count (bs ++ (b ∷ []))
  begun_now bs s t h =
      let e : min (w.hex.count + 1) 17 ≡ f.count = omega (arith, s.hex.long, h.long, length_snoc bs b) in
      subst (λ (n : ℕ). Begun text n (bs ++ (b ∷ []))) e t

  pub reads_minus : (bs : List ℕ) → Reads w bs → w.hex.count ≡ 0 → b ≡ 45 → Begun text (min (w.hex.count + 1) 17) (bs ++ (b ∷ [])) → Spells 16 f (bs ++ (b ∷ []))
      → Reads (record { text = text; minus = true; hex = f; decimal = w.decimal }) (bs ++ (b ∷ []))
  reads_minus [] s z e t h = record { begun = begun_now [] s t h; sign = rw e; hex = h; decimal = rw e s.decimal }
  reads_minus (x ∷ bs) s z e t h = absurd (omega (arith, s.hex.long))

  pub reads_more : (bs : List ℕ) → Reads w bs → (g : Digits) → (w.hex.count ≡ 0 → b ≡ 45 → ⊥) → ((ds : List ℕ) → Spells 10 w.decimal ds → Spells 10 g (ds ++ (b ∷ [])))
      → Begun text (min (w.hex.count + 1) 17) (bs ++ (b ∷ [])) → Spells 16 f (bs ++ (b ∷ []))
      → Reads (record { text = text; minus = w.minus; hex = f; decimal = g }) (bs ++ (b ∷ []))
  reads_more [] s g n d t h =
      let e = ne_eqb b 45 (n s.hex.long) in
      record { begun = begun_now [] s t h; sign = s.sign ∙ sym e; hex = h; decimal = rw e (d [] s.decimal) }
  reads_more (x ∷ bs) s g n d t h =
      record { begun = begun_now (x ∷ bs) s t h; sign = s.sign; hex = h; decimal = subst (λ (l : List ℕ). Spells 10 g l) (joined (eqb x 45)) (d (bare (x ∷ bs)) s.decimal) }
    where
      joined : (t : Bool) → cond t bs (x ∷ bs) ++ (b ∷ []) ≡ cond t (bs ++ (b ∷ [])) ((x ∷ bs) ++ (b ∷ []))
      joined true = refl
      joined false = refl
