-- A function of each field of a word, computed on the whole word: fields that are picked, multiplied and shifted. Assumes nothing.
use mathlib.Core.Path.{◌≡◌, refl, sym, ap, ◌∙◌}
use mathlib.Core.List.{List, [], ◌∷◌}
use Prim.Native.Nat.{ℕ, ◌+◌, ◌-◌, ◌*◌, ◌/◌, ◌%◌, ◌^◌, ◌≤◌, ◌<◌}
use native.Mathlib.Nat.{mod-lt, mul-lt-mul_of_pos_right, lt_of_lt_of_le}
use native.Mathlib.Omega.{arith}
use lib.Bits.{bit_and}
use lib.ListN.{length}
use lib.Pow.{pow_pos, high, low, field, mod-mod-pow}
use Rattle.ranks.proofs.Bases.{picks, mask, masked}

-- the word whose fields with b as the base are f of each of xs
unfoldable pub word : ℕ → (ℕ → ℕ) → List ℕ → ℕ
word b f [] = 0
word b f (x ∷ xs) = word b f xs * b + f x

abbrev pub Under : ℕ → (ℕ → ℕ) → List ℕ → Type 0
Under b f [] = Unit {0}
Under b f (x ∷ xs) = (f x < b) × Under b f xs

pub times : (b c : ℕ) (f : ℕ → ℕ) (xs : List ℕ) → word b f xs * c ≡ word b (λ x. f x * c) xs
unfolding word
times b c f [] = omega arith
times b c f (x ∷ xs) = rw (← (times b c f xs)) (omega arith)

pub plus : (b : ℕ) (f g : ℕ → ℕ) (xs : List ℕ) → word b f xs + word b g xs ≡ word b (λ x. f x + g x) xs
unfolding word
plus b f g [] = refl
plus b f g (x ∷ xs) = rw (← (plus b f g xs)) (omega arith)

pub alike : (b : ℕ) (f g : ℕ → ℕ) (n : ℕ) → ((x : ℕ) → x < n → f x ≡ g x) → (xs : List ℕ) → Under n (λ x. x) xs → word b f xs ≡ word b g xs
unfolding word
alike b f g n h [] u = refl
alike b f g n h (x ∷ xs) u = rw (h x u.0, alike b f g n h xs u.1)

-- bits inside the lowest field
bits : (l t s w x : ℕ) → s + t ≤ l → x < 2 ^ l → (w * 2 ^ l + x) / 2 ^ s % 2 ^ t ≡ x / 2 ^ s % 2 ^ t
bits l t s w x h g =
    let n : ℕ = w * 2 ^ l + x in
    let e : l - (t + s) + (t + s) ≡ l = omega arith in
    let q : n % 2 ^ (t + s) ≡ x % 2 ^ (t + s) =
    sym (mod-mod-pow n (l - (t + s)) (t + s)) ∙ ap (λ (i : ℕ). n % 2 ^ i % 2 ^ (t + s)) e ∙ ap (λ (y : ℕ). y % 2 ^ (t + s)) (low w l g) in
    sym (field n t s) ∙ ap (λ (y : ℕ). y / 2 ^ s) q ∙ field x t s

picked : (l t s : ℕ) (f : ℕ → ℕ) (xs : List ℕ) → s + t ≤ l → Under (2 ^ l) f xs → picks l t s (length xs) (word (2 ^ l) f xs) ≡ word (2 ^ l) (λ x. f x / 2 ^ s % 2 ^ t) xs
unfolding picks word
picked l t s f [] h u = refl
picked l t s f (x ∷ xs) h u = rw (high (word (2 ^ l) f xs) l u.0, bits l t s (word (2 ^ l) f xs) (f x) h u.0, picked l t s f xs h u.1)

lanes : (l t s : ℕ) (f : ℕ → ℕ) (xs : List ℕ) → s + t ≤ l → Under (2 ^ l) f xs → bit_and (word (2 ^ l) f xs / 2 ^ s) (mask l t (length xs)) ≡ word (2 ^ l) (λ x. f x / 2 ^ s % 2 ^ t) xs
lanes l t s f xs h u = masked l t s (length xs) (word (2 ^ l) f xs) (omega arith) ∙ picked l t s f xs h u

scaled : (l t s c : ℕ) (f : ℕ → ℕ) (xs : List ℕ) → 1 ≤ c → 2 ^ t * c ≤ 2 ^ l → Under (2 ^ l) (λ x. f x / 2 ^ s % 2 ^ t * c) xs
scaled l t s c f [] p h = tt
scaled l t s c f (x ∷ xs) p h = (lt_of_lt_of_le (mul-lt-mul_of_pos_right (mod-lt (f x / 2 ^ s) (pow_pos t)) p) h, scaled l t s c f xs p h)

-- t bits of each field, times c, and of that t' bits
pub quotients : (l t s c t' s' : ℕ) (f : ℕ → ℕ) (xs : List ℕ) → s + t ≤ l → s' + t' ≤ l → 1 ≤ c → 2 ^ t * c ≤ 2 ^ l → Under (2 ^ l) f xs →
    bit_and (bit_and (word (2 ^ l) f xs / 2 ^ s) (mask l t (length xs)) * c / 2 ^ s') (mask l t' (length xs)) ≡ word (2 ^ l) (λ x. f x / 2 ^ s % 2 ^ t * c / 2 ^ s' % 2 ^ t') xs
quotients l t s c t' s' f xs h h' p r u =
    let m : ℕ = mask l t' (length xs) in
    ap (λ (z : ℕ). bit_and (z * c / 2 ^ s') m) (lanes l t s f xs h u)
    ∙ ap (λ (z : ℕ). bit_and (z / 2 ^ s') m) (times (2 ^ l) c (λ (x : ℕ). f x / 2 ^ s % 2 ^ t) xs)
    ∙ lanes l t' s' (λ (x : ℕ). f x / 2 ^ s % 2 ^ t * c) xs h' (scaled l t s c f xs p r)
