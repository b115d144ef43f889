-- The turn of all digits at once. Assumes nothing.
use mathlib.Core.Path.{◌≡◌, refl, sym, ap, ap₂, ◌∙◌}
use mathlib.Core.Bool.{Bool, true, false, cond}
use mathlib.Core.List.{◌∷◌, map}
use Prim.Native.Nat.{ℕ, zero, suc, ◌+◌, ◌-◌, ◌*◌, ◌/◌, ◌%◌, ◌^◌, ◌≤◌, ◌<◌}
use native.Mathlib.Nat.{div-one, mod-lt, mod-eq_of_lt, zero-div, lt_of_le_of_lt, div-add-mod', mul-le-mul_right}
use native.Mathlib.Omega.{arith}
use lib.Arith.{digits_div}
use lib.Bits.{bit_and, bit_or, bit_xor, and_le_r, and_mod, or_lt, xor_lt}
use lib.Pow.{pow_pos}
use lib.Dec.{T, eqb, ltb, ltb→lt}
use Rattle.plane.specs.Directions.{turns}
use Rattle.plane.proofs.Every.{every, at, at_eq, at_lt}
use Rattle.index.specs.Layout.{digit, res_of}
use Rattle.index.specs.View.{used}
use Rattle.index.specs.Written.{WithDigits}
use Rattle.index.specs.Words.{Each}
use Rattle.turns.specs.Moves.{round, flip}
use Rattle.index.proofs.First.{digit_low}
use Rattle.index.proofs.Digitwise.{and8, or8, xor8, shr_swap, mask_at, window}

-- a product whose low part does not reach the place: the place sees its own part only
over : (z c p : ℕ) → 1 ≤ p → z % p * c < p → z * c / p ≡ z / p * c
over z c p h l =
    let e : z * c ≡ z / p * c * p + z % p * c = go (z / p) (z % p) z c p (div-add-mod' z p) in
    ap (λ (x : ℕ). x / p) e ∙ digits_div (z / p * c) l
  where
    go : (q r z c p : ℕ) → q * p + r ≡ z → z * c ≡ q * c * p + r * c
    go q r z c p e = let w : (q * p + r) * c ≡ z * c = ap (λ (t : ℕ). t * c) e in omega arith

times : (z c : ℕ) → z * c % 8 ≡ z % 8 * c % 8
times z c =
    let e : z ≡ z / 8 * 8 + z % 8 = sym (div-add-mod' z 8) in
    ap (λ (x : ℕ). x * c % 8) e ∙ go (z / 8) (z % 8) c
  where
    go : (q r c : ℕ) → (q * 8 + r) * c % 8 ≡ r * c % 8
    go q r c = let w : (q * 8 + r) * c ≡ q * c * 8 + r * c = omega arith in rw w (omega arith)

-- a digit of a masked word times c, where the mask, v in each digit, leaves room for that
masked : (x m c v : ℕ) → T (every 15 (λ k. eqb (m / 2 ^ (3 * k) % 8) v)) → T (every 15 (λ k. ltb (m % 2 ^ (3 * k) * c) (2 ^ (3 * k)))) →
    (r : ℕ) → 1 ≤ r → r ≤ 15 → digit (bit_and x m * c) r ≡ bit_and (digit x r) v * c % 8
masked x m c v t f r l u =
    let p : ℕ = 3 * (15 - r) in
    let h : m % 2 ^ p * c < 2 ^ p = ltb→lt _ _ (at 15 (λ (k : ℕ). ltb (m % 2 ^ (3 * k) * c) (2 ^ (3 * k))) f (15 - r) (omega arith)) in
    let a : bit_and x m % 2 ^ p ≤ m % 2 ^ p = rw (and_mod x m p) (and_le_r (x % 2 ^ p) (m % 2 ^ p)) in
    let o = over (bit_and x m) c (2 ^ p) (pow_pos p) (lt_of_le_of_lt (mul-le-mul_right c a) h) in
    rw (o, times (bit_and x m / 2 ^ p) c, and8 x m p, mask_at m v t r l u)

-- the k low bits of each digit
abbrev pub lows : ℕ → ℕ
lows k = 5026338869833 * (2 ^ k - 1)

lows_at : (k : ℕ) → k ≤ 3 → T (every 15 (λ i. eqb (lows k / 2 ^ (3 * i) % 8) (2 ^ k - 1)))
lows_at k h = at 4 (λ (k : ℕ). every 15 (λ i. eqb (lows k / 2 ^ (3 * i) % 8) (2 ^ k - 1))) tt k (omega arith)

-- no bit of a digit leaves it
moved_bits : (k : ℕ) → k ≤ 2 → (y : ℕ) → bit_or (bit_and (y / 2 ^ k % 8) (2 ^ (3 - k) - 1)) (bit_and (y % 8) (2 ^ k - 1) * 2 ^ (3 - k) % 8) ≡ round k (y % 8)
moved_bits zero h y = rw (div-one y) (window (λ (a b c : ℕ). bit_or (bit_and a 7) (bit_and a 0 * 8 % 8)) (round 0) tt y)
moved_bits (suc zero) h y = window (λ (a b c : ℕ). bit_or (bit_and b 3) (bit_and a 1 * 4 % 8)) (round 1) tt y
moved_bits (suc (suc zero)) h y = window (λ (a b c : ℕ). bit_or (bit_and c 1) (bit_and a 3 * 2 % 8)) (round 2) tt y
moved_bits (suc (suc (suc k))) h y = absurd (omega arith)

pub moved : (k x a b : ℕ) → k ≤ 2 → a ≡ lows (3 - k) → b ≡ lows k → Each (round k) x (bit_or (bit_and (x / 2 ^ k) a) (bit_and x b * 2 ^ (3 - k) % 2 ^ 64))
moved k x a b h ea eb =
    let left : ℕ = bit_and x (lows k) * 2 ^ (3 - k) in
    let l : left < 2 ^ 45 = lt_of_le_of_lt (mul-le-mul_right (2 ^ (3 - k)) (and_le_r x (lows k))) (at_lt 3 (2 ^ 45) (λ (k : ℕ). lows k * 2 ^ (3 - k)) tt k (omega arith)) in
    let e : left % 2 ^ 64 ≡ left = mod-eq_of_lt (omega arith) in
    rw (ea, eb, e)
    (record {
      short = or_lt 45 _ left (lt_of_le_of_lt (and_le_r (x / 2 ^ k) (lows (3 - k))) (at_lt 4 (2 ^ 45) lows tt (3 - k) (omega arith))) l;
      each = λ r g u.
          let p : ℕ = 3 * (15 - r) in
          let s = masked x (lows k) (2 ^ (3 - k)) (2 ^ k - 1) (lows_at k (omega arith)) (at 3 (λ (k : ℕ). every 15 (λ i. ltb (lows k % 2 ^ (3 * i) * 2 ^ (3 - k)) (2 ^ (3 * i)))) tt k (omega arith)) r g u in
          rw (or8 (bit_and (x / 2 ^ k) (lows (3 - k))) left p, and8 (x / 2 ^ k) (lows (3 - k)) p, mask_at (lows (3 - k)) (2 ^ (3 - k) - 1) (lows_at (3 - k) (omega arith)) r g u, shr_swap x k p, s)
          (moved_bits k h (x / 2 ^ p));
    })

abbrev pub differ : ℕ → ℕ
differ x = bit_or (bit_xor x (x / 2 ^ 1)) (bit_xor x (x / 2 ^ 2))

pub flipped : (x : ℕ) → Each flip x (bit_and (differ x) 5026338869833 * 7)
flipped x =
    record {
      short = omega (arith, and_le_r (differ x) 5026338869833);
      each = λ r l u.
          let p : ℕ = 3 * (15 - r) in
          rw (masked (differ x) 5026338869833 7 1 tt tt r l u, or8 (bit_xor x (x / 2 ^ 1)) (bit_xor x (x / 2 ^ 2)) p, xor8 x (x / 2 ^ 1) p, xor8 x (x / 2 ^ 2) p, shr_swap x 1 p, shr_swap x 2 p)
          (window (λ (a b c : ℕ). bit_and (bit_or (bit_xor a b) (bit_xor a c)) 1 * 7 % 8) flip tt (x / 2 ^ p));
    }

-- words put together
module _ (x : ℕ) where
  self : x < 2 ^ 45 → Each (λ d. d) x x
  self h = record { short = h; each = λ r l u. refl }

  none : Each (λ d. 0) x 0
  none = record { short = omega arith; each = λ r l u. rw (zero-div (2 ^ (3 * (15 - r)))) }

  either : (f g : ℕ → ℕ) (t : Bool) (a b : ℕ) → Each f x a → Each g x b → Each (λ d. cond t (f d) (g d)) x (cond t a b)
  either f g true a b p q = p
  either f g false a b p q = q

  changed : (f g : ℕ → ℕ) (a b : ℕ) → Each f x a → Each g x b → Each (λ d. bit_xor (f d) (g d)) x (bit_xor a b)
  changed f g a b p q =
      record { short = xor_lt 45 a b p.short q.short; each = λ r l u. xor8 a b (3 * (15 - r)) ∙ rw (p.each r l u, q.each r l u) }

  alike : (f g : ℕ → ℕ) (y : ℕ) → ((d : ℕ) → d < 8 → f d ≡ g d) → Each f x y → Each g x y
  alike f g y e p = record { short = p.short; each = λ r l u. p.each r l u ∙ e (digit x r) (mod-lt _ (omega arith)) }

-- one digit: six counts and the count 6, eight values
one_digit : (c d : ℕ) → c < 7 → d < 8 → bit_xor (cond (eqb (c % 3) 0) d (cond (eqb (c % 3) 1) (round 2 d) (round 1 d))) (cond (eqb (c % 2) 1) (flip d) 0) ≡ turns true c d
one_digit c d h l =
    at_eq 8 (word c) (turns true c) (at 7 (λ (c : ℕ). every 8 (λ d. eqb (word c d) (turns true c d))) tt c h) d l
  where
    word : ℕ → ℕ → ℕ
    word c d = bit_xor (cond (eqb (c % 3) 0) d (cond (eqb (c % 3) 1) (round 2 d) (round 1 d))) (cond (eqb (c % 2) 1) (flip d) 0)

-- in the words of the calls
pub word_turned : (x c a b m e f g : ℕ) → x < 2 ^ 45 → c ≤ 6 → Each (round 2) x a → Each (round 1) x b → m ≡ cond (eqb (c % 3) 1) a b → e ≡ cond (eqb (c % 3) 0) x m → Each flip x f → g ≡ cond (eqb (c % 2) 1) f 0 →
    Each (turns true c) x (bit_xor e g)
word_turned x c a b m e f g h l pa pb em ee pf eg =
    let low : Each (λ d. cond (eqb (c % 3) 0) d (cond (eqb (c % 3) 1) (round 2 d) (round 1 d))) x (cond (eqb (c % 3) 0) x (cond (eqb (c % 3) 1) a b)) = either x _ _ (eqb (c % 3) 0) x _ (self x h) (either x (round 2) (round 1) (eqb (c % 3) 1) a b pa pb) in
    let odd : Each (λ d. cond (eqb (c % 2) 1) (flip d) 0) x (cond (eqb (c % 2) 1) f 0) = either x flip _ (eqb (c % 2) 1) f 0 pf (none x) in
    rw (ee, em, eg) (alike x _ _ _ (λ d g. one_digit c d (omega arith) g) (changed x _ _ _ _ low odd))

-- clockwise turns are the others of six
pub sense : (o : Bool) (k c : ℕ) (x y : ℕ) → k ≤ 5 → c ≡ cond o k (6 - k) → Each (turns true c) x y → Each (turns o k) x y
sense true k c x y h e p = rw e at p
sense false k c x y h e p =
    alike x _ _ y
    (λ d l. at_eq 8 (turns true (6 - k)) (turns false k) (at 6 (λ (k : ℕ). every 8 (λ d. eqb (turns true (6 - k) d) (turns false k d))) tt k (omega arith)) d l)
    (rw e at p)

turns_seven : (o : Bool) (k : ℕ) → k ≤ 5 → turns o k 7 ≡ 7
turns_seven true k h = at_eq 6 (λ (k : ℕ). turns true k 7) (λ k. 7) tt k (omega arith)
turns_seven false k h = at_eq 6 (λ (k : ℕ). turns false k 7) (λ k. 7) tt k (omega arith)

used_mapped : (f : ℕ → ℕ) (n y k : ℕ) → k ≤ 15 → ((r : ℕ) → 1 ≤ r → r ≤ 15 → digit y r ≡ f (digit n r)) → used y k ≡ map f (used n k)
unfolding used
used_mapped f n y zero l h = refl
used_mapped f n y (suc k) l h = ap₂ ◌∷◌ (h (suc k) (omega arith) l) (used_mapped f n y k (omega arith) h)

-- the word in the number's place: every digit is turned, and an unused 7 stays
pub placed : (o : Bool) (k n t : ℕ) → k ≤ 5 → ((r : ℕ) → res_of n < r → r ≤ 15 → digit n r ≡ 7) → Each (turns o k) (n % 2 ^ 45) t →
    WithDigits n (map (turns o k) (used n (res_of n))) (n - n % 2 ^ 45 + t)
placed o k n t h q w =
    let y : ℕ = n - n % 2 ^ 45 + t in
    let e : y % 2 ^ 45 ≡ t = low n t w.short in
    let all : (r : ℕ) → 1 ≤ r → r ≤ 15 → digit y r ≡ turns o k (digit n r) = λ r l u.
    digit_low y (3 * (15 - r)) (omega arith) ∙ rw e (w.each r l u) ∙ ap (turns o k) (sym (digit_low n (3 * (15 - r)) (omega arith))) in
    record {
      upper = high n t w.short;
      digits = used_mapped (turns o k) n y (res_of n) (omega arith) all;
      rest = λ r l u. all r (omega arith) u ∙ ap (turns o k) (q r l u) ∙ turns_seven o k h ∙ sym (q r l u);
    }
  where
    high : (n t : ℕ) → t < 2 ^ 45 → (n - n % 2 ^ 45 + t) / 2 ^ 45 ≡ n / 2 ^ 45
    high n t h = omega arith

    low : (n t : ℕ) → t < 2 ^ 45 → (n - n % 2 ^ 45 + t) % 2 ^ 45 ≡ t
    low n t h = omega arith
