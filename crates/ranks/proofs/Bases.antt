-- Words of fields, and sixteen digits with eight as their base read with seven as the base, by joining pairs of fields on the whole word.
-- Assumes nothing.
use mathlib.Core.Path.{◌≡◌, refl, sym, ap, ◌∙◌}
use mathlib.Core.Bool.{false}
use Prim.Native.Nat.{ℕ, zero, suc, ◌+◌, ◌-◌, ◌*◌, ◌/◌, ◌%◌, ◌^◌, ◌≤◌, ◌<◌}
use native.Mathlib.Nat.{add_comm, div-add-mod', mod-lt, mod-eq_of_lt, div-lt_iff_lt-mul, mul-le-mul_left, mul-le-mul_right, le_trans, pow-suc, lt_of_lt_of_le}
use native.Mathlib.Omega.{arith}
use lib.Arith.{digits_div, digits_mod}
use lib.Bits.{bit_and, and_block, and_mask}
use lib.Pow.{pow-add, pow_pos, pow_mono, split, shr-shr, mod-mod-pow, ones_lt}
use Rattle.index.specs.View.{octal}
use Rattle.descent.specs.Positions.{below}

-- of k fields of l bits of v: the t bits from bit s on, each in the lowest place of its field
unfoldable pub picks : ℕ → ℕ → ℕ → ℕ → ℕ → ℕ
picks l t s zero v = 0
picks l t s (suc k) v = picks l t s k (v / 2 ^ l) * 2 ^ l + v / 2 ^ s % 2 ^ t

-- the mask that leaves them
unfoldable pub mask : ℕ → ℕ → ℕ → ℕ
mask l t zero = 0
mask l t (suc k) = mask l t k * 2 ^ l + (2 ^ t - 1)

pub masked : (l t s k v : ℕ) → t ≤ l → bit_and (v / 2 ^ s) (mask l t k) ≡ picks l t s k v
unfolding picks mask
masked l t s zero v h = and_mask (v / 2 ^ s) 0 ∙ omega arith
masked l t s (suc k) v h =
    let x : ℕ = v / 2 ^ s in
    let lt : 2 ^ t - 1 < 2 ^ l = lt_of_lt_of_le (ones_lt t) (pow_mono h) in
    let hi : x / 2 ^ l ≡ v / 2 ^ l / 2 ^ s = shr-shr v s l ∙ ap (λ (i : ℕ). v / 2 ^ i) (add_comm s l) ∙ sym (shr-shr v l s) in
    let e : l ≡ l - t + t = omega arith in
    let lo : bit_and (x % 2 ^ l) (2 ^ t - 1) ≡ x % 2 ^ t = and_mask (x % 2 ^ l) t ∙ ap (λ (i : ℕ). x % 2 ^ i % 2 ^ t) e ∙ mod-mod-pow x (l - t) t in
    ap (λ (z : ℕ). bit_and z (mask l t k * 2 ^ l + (2 ^ t - 1))) (sym (split x l))
    ∙ and_block l (x / 2 ^ l) (mask l t k) (x % 2 ^ l) (2 ^ t - 1) (mod-lt x (pow_pos l)) lt
    ∙ rw (hi, lo, masked l t s k (v / 2 ^ l) h)

-- the k fields of v with b as the base, read with q as the base
pub val : ℕ → ℕ → ℕ → ℕ → ℕ
val q b zero v = 0
val q b (suc k) v = val q b k (v / b) * q + v % b

-- of k pairs of fields of v with b as the base: the upper ones, each in the place of its pair
odds : ℕ → ℕ → ℕ → ℕ
odds b zero v = 0
odds b (suc k) v = odds b k (v / b / b) * (b * b) + v / b % b

picked_odds : (i k v : ℕ) → picks (i + i) i i k v ≡ odds (2 ^ i) k v
unfolding picks odds
picked_odds i zero v = refl
picked_odds i (suc k) v = rw (← (shr-shr v i i), picked_odds i k (v / 2 ^ i / 2 ^ i), pow-add 2 i i)

odds_mask : (i k v : ℕ) → bit_and (v / 2 ^ i) (mask (i + i) i k) ≡ odds (2 ^ i) k v
odds_mask i k v = masked (i + i) i i k v (omega arith) ∙ picked_odds i k v

-- v by its lowest pair
pair : (b v : ℕ) → v ≡ v / b / b * (b * b) + (v / b % b * b + v % b)
pair b v =
    let e : v / b * b + v % b ≡ v = div-add-mod' v b in
    let f : v / b / b * b + v / b % b ≡ v / b = div-add-mod' (v / b) b in
    go (v / b / b) (v / b % b) (v % b) (v / b) b v f e
  where
    go : (w c a x b v : ℕ) → w * b + c ≡ x → x * b + a ≡ v → v ≡ w * (b * b) + (c * b + a)
    go w c a x b v f e = let g : (w * b + c) * b ≡ x * b = ap (λ (t : ℕ). t * b) f in omega arith

odds_le : (b k v : ℕ) → b * odds b k v ≤ v
unfolding odds
odds_le b zero v = omega arith
odds_le b (suc k) v =
    let h : b * odds b k (v / b / b) * (b * b) ≤ v / b / b * (b * b) = mul-le-mul_right (b * b) (odds_le b k (v / b / b)) in
    go (v / b / b) (v / b % b) (v % b) (odds b k (v / b / b)) b v (pair b v) h
  where
    go : (w c a o b v : ℕ) → v ≡ w * (b * b) + (c * b + a) → b * o * (b * b) ≤ w * (b * b) → b * (o * (b * b) + c) ≤ v
    go w c a o b v e h = omega arith

dbl : ℕ → ℕ
dbl zero = zero
dbl (suc k) = suc (suc (dbl k))

-- d times the upper fields taken away, with b = q + d: the pairs are joined
fold : (q d b k v : ℕ) → b ≡ q + d → 1 ≤ b → val q b (dbl k) v ≡ val (q * q) (b * b) k (v - d * odds b k v)
unfolding val odds dbl
fold q d b zero v e p = refl
fold q d b (suc k) v e p =
    let w : ℕ = v / b / b in
    let c : ℕ = v / b % b in
    let a : ℕ = v % b in
    let o : ℕ = odds b k w in
    let u : ℕ = w - d * o in
    let le : d * o ≤ w = le_trans (mul-le-mul_right o (let t : d ≤ b = omega arith in t)) (odds_le b k w) in
    let x : v - d * (o * (b * b) + c) ≡ u * (b * b) + (c * q + a) = join w c a o d q b v (pair b v) e le in
    let cl : c < b = mod-lt (v / b) p in
    let al : a < b = mod-lt v p in
    let r : c * q + a < b * b = room c a q b cl al (omega arith) in
    rw (x, digits_div u r, digits_mod u r, fold q d b k w e p) (lin (val (q * q) (b * b) k u) q c a)
  where
    join : (w c a o d q b v : ℕ) → v ≡ w * (b * b) + (c * b + a) → b ≡ q + d → d * o ≤ w → v - d * (o * (b * b) + c) ≡ (w - d * o) * (b * b) + (c * q + a)
    join w c a o d q b v e f h =
        let u : ℕ = w - d * o in
        let g : w ≡ u + d * o = omega arith in
        let s : ℕ = b * b in
        let m : w * s ≡ (u + d * o) * s = ap (λ (t : ℕ). t * s) g in
        let n : c * b ≡ c * (q + d) = ap (λ (t : ℕ). c * t) f in
        plain w c a o d q (b * b) v (c * b) u e m n
      where
        plain : (w c a o d q s v y u : ℕ) → v ≡ w * s + (y + a) → w * s ≡ (u + d * o) * s → y ≡ c * (q + d) → v - d * (o * s + c) ≡ u * s + (c * q + a)
        plain w c a o d q s v y u e m n = omega arith

    room : (c a q b : ℕ) → c < b → a < b → q ≤ b → c * q + a < b * b
    room c a q b h g l =
        let x : c * q ≤ c * b = mul-le-mul_left c l in
        let y : (c + 1) * b ≤ b * b = mul-le-mul_right b (let t : c + 1 ≤ b = omega arith in t) in
        omega arith

    lin : (x q c a : ℕ) → (x * q + c) * q + a ≡ x * (q * q) + (c * q + a)
    lin x q c a = omega arith

-- the four steps of sixteen digits
pub join1 : (v : ℕ) → (8 * bit_and (v / 2 ^ 3) 31274997412295 ≤ v) × (val 7 8 16 v ≡ val 49 64 8 (v - bit_and (v / 2 ^ 3) 31274997412295))
unfolding mask dbl
join1 v =
    let e : bit_and (v / 2 ^ 3) 31274997412295 ≡ odds 8 8 v = odds_mask 3 8 v in
    let z : 1 * odds 8 8 v ≡ odds 8 8 v = omega arith in
    (rw e (odds_le 8 8 v), rw e (rw z at (fold 7 1 8 8 v refl (omega arith))))

pub join2 : (v : ℕ) → (64 * bit_and (v / 2 ^ 6) 4330384257087 ≤ v) × (val 49 64 8 v ≡ val 2401 4096 4 (v - 15 * bit_and (v / 2 ^ 6) 4330384257087))
unfolding mask dbl
join2 v =
    let e : bit_and (v / 2 ^ 6) 4330384257087 ≡ odds 64 4 v = odds_mask 6 4 v in
    (rw e (odds_le 64 4 v), rw e (fold 49 15 64 4 v refl (omega arith)))

pub join3 : (v : ℕ) → (4096 * bit_and (v / 2 ^ 12) 68702703615 ≤ v) × (val 2401 4096 4 v ≡ val 5764801 16777216 2 (v - 1695 * bit_and (v / 2 ^ 12) 68702703615))
unfolding mask dbl
join3 v =
    let e : bit_and (v / 2 ^ 12) 68702703615 ≡ odds 4096 2 v = odds_mask 12 2 v in
    (rw e (odds_le 4096 2 v), rw e (fold 2401 1695 4096 2 v refl (omega arith)))

pub join4 : (v : ℕ) → v < 2 ^ 48 → val 5764801 16777216 2 v ≡ v % 2 ^ 24 + 5764801 * (v / 2 ^ 24)
unfolding val
join4 v h = let e : v / 2 ^ 24 % 2 ^ 24 ≡ v / 2 ^ 24 = mod-eq_of_lt ((div-lt_iff_lt-mul (pow_pos 24)).1 (omega arith)) in omega arith

-- read back, a position's digits give the position
pub val_digits : (k p : ℕ) → p < 7 ^ k → val 7 8 k (octal (below false k p)) ≡ p
unfolding val octal below
val_digits zero p h = omega arith
val_digits (suc k) p h =
    let x : ℕ = octal (below false k (p / 7)) in
    let a : (x * 8 + p % 7) / 8 ≡ x = omega arith in
    let b : (x * 8 + p % 7) % 8 ≡ p % 7 = omega arith in
    rw (a, b, val_digits k (p / 7) (omega (arith, pow-suc 7 k))) (omega arith)
