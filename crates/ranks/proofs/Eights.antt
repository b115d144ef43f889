-- The sixteen digits of a position below a hexagon with eight as their base, from four fields of four digits each, computed on the whole
-- word as `in_eights` does. Assumes nothing.
use mathlib.Core.Path.{◌≡◌, sym, ap, ◌∙◌}
use mathlib.Core.Bool.{false}
use mathlib.Core.List.{List, [], ◌∷◌}
use Prim.Native.Nat.{ℕ, zero, suc, ◌+◌, ◌*◌, ◌/◌, ◌%◌, ◌^◌, ◌<◌}
use native.Mathlib.Nat.{pow-suc, div-div-eq-div-mul, div-one, mod-eq_of_lt}
use native.Mathlib.Omega.{arith}
use lib.Arith.{mod-mul, digits_div, digits_mod}
use lib.Bits.{bit_and}
use Rattle.index.specs.View.{octal}
use Rattle.plane.proofs.Every.{at_eq, at_lt}
use Rattle.descent.specs.Positions.{below}
use Rattle.descent.proofs.Counts.{sevens_pos}
use Rattle.ranks.proofs.Bases.{mask}
use Rattle.ranks.proofs.Fields.{word, Under, times, plus, alike, quotients}

-- the digits of a position are those of its remainder below those of its quotient
blocks : (i k p : ℕ) → octal (below false (i + k) p) ≡ octal (below false k (p / 7 ^ i)) * 8 ^ i + octal (below false i (p % 7 ^ i))
unfolding octal below
blocks zero k p =
    let e : 0 + k ≡ k = omega arith in
    rw (e, div-one p) (omega arith)
blocks (suc i) k p =
    let e : suc i + k ≡ suc (i + k) = omega arith in
    let m : p % (7 ^ i * 7) ≡ p / 7 % 7 ^ i * 7 + p % 7 = mod-mul p (sevens_pos i) (omega arith) in
    let a : p % (7 ^ i * 7) % 7 ≡ p % 7 = omega arith in
    let b : p % (7 ^ i * 7) / 7 ≡ p / 7 % 7 ^ i = omega arith in
    let d : p / 7 / 7 ^ i ≡ p / (7 ^ i * 7) = quot p i in
    rw (e, blocks i k (p / 7), pow-suc 7 i, pow-suc 8 i, a, b, d) (omega arith)
  where
    quot : (p i : ℕ) → p / 7 / 7 ^ i ≡ p / (7 ^ i * 7)
    quot p i = div-div-eq-div-mul p 7 (7 ^ i) ∙ ap (λ (z : ℕ). p / z) (let z : 7 * 7 ^ i ≡ 7 ^ i * 7 = omega arith in z)

-- four digits
four : ℕ → ℕ
four y = octal (below false 4 y)

-- eight digits in two fields of twelve bits, and a field's quotient by 49
pair : ℕ → ℕ
pair x = x + 1695 * (x / 2401)

low49 : ℕ → ℕ
low49 x = x / 2 ^ 0 % 2 ^ 12 * 1338 / 2 ^ 16 % 2 ^ 6

high49 : ℕ → ℕ
high49 x = x / 2 ^ 12 % 2 ^ 12 * 1338 / 2 ^ 16 % 2 ^ 6

-- four digits in two fields of six bits
two : ℕ → ℕ
two y = y + 15 * (y * 1338 / 2 ^ 16 % 2 ^ 6)

low7 : ℕ → ℕ
low7 y = y / 2 ^ 0 % 2 ^ 6 * 37 / 2 ^ 8 % 2 ^ 3

high7 : ℕ → ℕ
high7 y = y / 2 ^ 6 % 2 ^ 6 * 37 / 2 ^ 8 % 2 ^ 3

four_is : (y : ℕ) → y < 2401 → two y + low7 (two y) + high7 (two y) * 64 ≡ four y
unfolding two low7 high7 four octal below
four_is = at_eq 2401 (λ (y : ℕ). two y + low7 (two y) + high7 (two y) * 64) four tt

two_lt : (y : ℕ) → y < 2401 → two y < 4096
unfolding two
two_lt = at_lt 2401 4096 two tt

pair_is : (x : ℕ) → pair x ≡ x / 2401 * 4096 + x % 2401
unfolding pair
pair_is x = omega arith

split : (x : ℕ) → x < 5764801 → (x / 2401 < 2401) × (x % 2401 < 2401)
split x h = (omega arith, omega arith)

-- one field of twenty-four bits
field : (x : ℕ) → x < 5764801 → pair x + (low49 (pair x) + high49 (pair x) * 4096) * 15 ≡ two (x / 2401) * 4096 + two (x % 2401)
unfolding low49 high49 two
field x h =
    let s = split x h in
    let a : pair x / 2 ^ 0 % 2 ^ 12 ≡ x % 2401 = rw (div-one (pair x), pair_is x) (digits_mod (x / 2401) (lt_trans_small s.1)) in
    let b : pair x / 2 ^ 12 % 2 ^ 12 ≡ x / 2401 = rw (pair_is x, digits_div (x / 2401) {m = 4096} (lt_trans_small s.1)) (mod-eq_of_lt (lt_trans_small s.0)) in
    rw (a, b, pair_is x) (lin (x / 2401) (x % 2401) (x % 2401 * 1338 / 2 ^ 16 % 2 ^ 6) (x / 2401 * 1338 / 2 ^ 16 % 2 ^ 6))
  where
    lt_trans_small : {a : ℕ} → a < 2401 → a < 4096
    lt_trans_small h = omega arith

    lin : (y z a b : ℕ) → y * 4096 + z + (a + b * 4096) * 15 ≡ (y + 15 * b) * 4096 + (z + 15 * a)
    lin y z a b = omega arith

module _ (p l h v₂ e o v₃ e' o' : ℕ) (fits : p < 7 ^ 16) (el : l ≡ p % 5764801) (eh : h ≡ p / 5764801)
    (ev₂ : v₂ ≡ l + 1695 * (l / 2401) + (h + 1695 * (h / 2401)) * 16777216)
    (ee : e ≡ bit_and (bit_and v₂ 68702703615 * 1338 / 2 ^ 16) 1056964671) (eo : o ≡ bit_and (bit_and (v₂ / 2 ^ 12) 68702703615 * 1338 / 2 ^ 16) 1056964671)
    (ev₃ : v₃ ≡ v₂ + 15 * (e + o * 4096))
    (ee' : e' ≡ bit_and (bit_and v₃ 4330384257087 * 37 / 2 ^ 8) 481153806343) (eo' : o' ≡ bit_and (bit_and (v₃ / 2 ^ 6) 4330384257087 * 37 / 2 ^ 8) 481153806343) where
  l_lt : l < 5764801
  l_lt = omega arith

  h_lt : h < 5764801
  h_lt = omega arith

  abbrev xs : List ℕ
  xs = l ∷ h ∷ []

  abbrev ys : List ℕ
  ys = l % 2401 ∷ l / 2401 ∷ h % 2401 ∷ h / 2401 ∷ []

  pair_lt : (x : ℕ) → x < 5764801 → pair x < 2 ^ 24
  pair_lt x g = omega (arith, pair_is x, split x g)

  v₂_is : v₂ ≡ word (2 ^ 24) pair xs
  unfolding word pair
  v₂_is = omega arith

  e_is : e ≡ word (2 ^ 24) (λ x. low49 (pair x)) xs
  unfolding mask low49
  e_is =
      ee ∙ ap (λ (z : ℕ). bit_and (bit_and z 68702703615 * 1338 / 2 ^ 16) 1056964671) (sym (div-one v₂) ∙ ap (λ (z : ℕ). z / 2 ^ 0) v₂_is)
      ∙ quotients 24 12 0 1338 6 16 pair xs (omega arith) (omega arith) (omega arith) (omega arith) (pair_lt l l_lt, (pair_lt h h_lt, tt))

  o_is : o ≡ word (2 ^ 24) (λ x. high49 (pair x)) xs
  unfolding mask high49
  o_is =
      eo ∙ ap (λ (z : ℕ). bit_and (bit_and (z / 2 ^ 12) 68702703615 * 1338 / 2 ^ 16) 1056964671) v₂_is
      ∙ quotients 24 12 12 1338 6 16 pair xs (omega arith) (omega arith) (omega arith) (omega arith) (pair_lt l l_lt, (pair_lt h h_lt, tt))

  v₃_is : v₃ ≡ word 4096 two ys
  unfolding word
  v₃_is =
      lin (pair l) (pair h) (low49 (pair l)) (low49 (pair h)) (high49 (pair l)) (high49 (pair h)) (two (l % 2401)) (two (l / 2401)) (two (h % 2401)) (two (h / 2401)) v₂ e o v₃
      v₂_is e_is o_is ev₃ (field l l_lt) (field h h_lt)
    where
      lin : (a b c d i j w x y z v₂ e o v₃ : ℕ) → v₂ ≡ (0 * 2 ^ 24 + b) * 2 ^ 24 + a → e ≡ (0 * 2 ^ 24 + d) * 2 ^ 24 + c → o ≡ (0 * 2 ^ 24 + j) * 2 ^ 24 + i → v₃ ≡ v₂ + 15 * (e + o * 4096) →
          a + (c + i * 4096) * 15 ≡ x * 4096 + w → b + (d + j * 4096) * 15 ≡ z * 4096 + y → v₃ ≡ (((0 * 4096 + z) * 4096 + y) * 4096 + x) * 4096 + w
      lin a b c d i j w x y z v₂ e o v₃ q₁ q₂ q₃ q₄ q₅ q₆ = omega arith

  small : Under 2401 (λ x. x) ys
  small = let a = split l l_lt in let b = split h h_lt in (a.1, (a.0, (b.1, (b.0, tt))))

  under : Under (2 ^ 12) two ys
  under = let a = split l l_lt in let b = split h h_lt in (two_lt _ a.1, (two_lt _ a.0, (two_lt _ b.1, (two_lt _ b.0, tt))))

  e'_is : e' ≡ word 4096 (λ y. low7 (two y)) ys
  unfolding mask low7
  e'_is =
      ee' ∙ ap (λ (z : ℕ). bit_and (bit_and z 4330384257087 * 37 / 2 ^ 8) 481153806343) (sym (div-one v₃) ∙ ap (λ (z : ℕ). z / 2 ^ 0) v₃_is)
      ∙ quotients 12 6 0 37 3 8 two ys (omega arith) (omega arith) (omega arith) (omega arith) under

  o'_is : o' ≡ word 4096 (λ y. high7 (two y)) ys
  unfolding mask high7
  o'_is =
      eo' ∙ ap (λ (z : ℕ). bit_and (bit_and (z / 2 ^ 6) 4330384257087 * 37 / 2 ^ 8) 481153806343) v₃_is
      ∙ quotients 12 6 6 37 3 8 two ys (omega arith) (omega arith) (omega arith) (omega arith) under

  sixteen : word 4096 four ys ≡ octal (below false 16 p)
  unfolding word four
  sixteen =
      let a : octal (below false 16 p) ≡ octal (below false 8 h) * 8 ^ 8 + octal (below false 8 l) = blocks 8 8 p ∙ rw (← el, ← eh) in
      lin _ _ _ _ _ _ _ a (blocks 4 4 l) (blocks 4 4 h)
    where
      lin : (t a b w x y z : ℕ) → t ≡ b * 8 ^ 8 + a → a ≡ x * 8 ^ 4 + w → b ≡ z * 8 ^ 4 + y → (((0 * 4096 + z) * 4096 + y) * 4096 + x) * 4096 + w ≡ t
      lin t a b w x y z q₁ q₂ q₃ = omega arith

  pub digits : v₃ + e' + o' * 64 ≡ octal (below false 16 p)
  digits =
      rw (v₃_is, e'_is, o'_is, times 4096 64 (λ (y : ℕ). high7 (two y)) ys, plus 4096 two (λ (y : ℕ). low7 (two y)) ys, plus 4096 (λ (y : ℕ). two y + low7 (two y)) (λ (y : ℕ). high7 (two y) * 64) ys)
      (alike 4096 (λ (y : ℕ). two y + low7 (two y) + high7 (two y) * 64) four 2401 four_is ys small ∙ sixteen)
