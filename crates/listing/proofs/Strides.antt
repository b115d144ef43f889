-- The numbers below a cell by blocks of 7 ^ i: what a position has over the same place of an earlier block. Assumes nothing.
use Rattle.std.proofs.Common.{◌≡◌, ℕ, zero, suc, ◌+◌, ◌-◌, ◌*◌, ◌/◌, ◌%◌, ◌^◌, ◌<◌, ◌≤◌, Bool, true, false, List, ◌++◌, length, drop, sym, ap, ◌∙◌, subst, mod-lt, div-lt_iff_lt-mul, suc-add, mul-le-mul_left, pow-suc, div-add-mod', le-div_iff_mul-le, arith}
use Rattle.index.specs.View.{octal}
use Rattle.index.proofs.View.{octal_lt}
use Rattle.descent.specs.Descendants.{count}
use Rattle.descent.specs.Positions.{bump, below, tab}
use Rattle.listing.specs.Copies.{copies, number_at}
use Rattle.descent.proofs.Counts.{count_suc}
use Rattle.descent.proofs.Below.{length_below, digits_below, octal_zero}
use Rattle.listing.proofs.Copies.{copied}

-- the position where the blocks of 7 ^ i begin, and what is coarser than block x
abbrev pub origin : Bool → ℕ → ℕ
origin true i = count true i
origin false i = 0

abbrev pub nth : Bool → ℕ → ℕ
nth true x = suc x
nth false x = x

origin_zero : (t : Bool) (x q : ℕ) → q < 1 → origin t 0 + (1 * x + q) ≡ nth t x
origin_zero true x q h = omega arith
origin_zero false x q h = omega arith

origin_bump : (t : Bool) (i r : ℕ) → bump t (origin t (suc i) + r) ≡ origin t i * 7 + r
origin_bump true i r = go (count true (suc i)) (count true i) (count_suc i)
  where
    go : (c b : ℕ) → c + 1 ≡ 7 * b → bump true (c + r) ≡ b * 7 + r
    go zero b h = absurd (let z : ⊥ = omega arith in z)
    go (suc c) b h = rw (suc-add c r) (omega arith)
origin_bump false i r = omega arith

-- the digits of a place in a block are below those of the block
pub octal_block : (t : Bool) (i k x q : ℕ) → q < 7 ^ i → octal (below t (i + k) (origin t i + (7 ^ i * x + q))) ≡ octal (below false i q) + 8 ^ i * octal (below t k (nth t x))
unfolding octal below
octal_block t zero k x q h =
    let z : origin t 0 + (7 ^ 0 * x + q) ≡ nth t x = origin_zero t x q h in
    let e : 0 + k ≡ k = omega arith in
    rw (z, e) (omega arith)
octal_block t (suc i) k x q h =
    let s = pow-suc 7 i in
    let e : suc i + k ≡ suc (i + k) = omega arith in
    let o : bump t (origin t (suc i) + (7 ^ suc i * x + q)) ≡ origin t i * 7 + (7 ^ i * 7 * x + q) = origin_bump t i (7 ^ suc i * x + q) ∙ rw s in
    let a : bump t (origin t (suc i) + (7 ^ suc i * x + q)) % 7 ≡ q % 7 = rw o (part_mod (origin t i) (7 ^ i)) in
    let b : bump t (origin t (suc i) + (7 ^ suc i * x + q)) / 7 ≡ origin t i + (7 ^ i * x + q / 7) = rw o (part_div (origin t i) (7 ^ i)) in
    rw (e, a, b, octal_block t i k x (q / 7) (omega arith), pow-suc 8 i) (omega arith)
  where
    part_mod : (c s : ℕ) → (c * 7 + (s * 7 * x + q)) % 7 ≡ q % 7
    part_mod c s = omega arith

    part_div : (c s : ℕ) → (c * 7 + (s * 7 * x + q)) / 7 ≡ c + (s * x + q / 7)
    part_div c s = omega arith

-- the digits of a block's number
pub hexagon_block : (k x : ℕ) → 1 ≤ k → x < 7 → octal (below false k x) ≡ x
unfolding octal below
hexagon_block zero x l h = absurd (let z : ⊥ = omega arith in z)
hexagon_block (suc k) x l h =
    let a : x % 7 ≡ x = omega arith in
    let b : x / 7 ≡ 0 = omega arith in
    rw (b, octal_zero false k, a) (omega arith)

pub pentagon_block : (k x : ℕ) → 1 ≤ k → x < 5 → octal (below true k (suc x)) ≡ x + 2
unfolding octal below
pentagon_block zero x l h = absurd (let z : ⊥ = omega arith in z)
pentagon_block (suc k) x l h =
    let a : suc (suc x) % 7 ≡ x + 2 = omega arith in
    let b : suc (suc x) / 7 ≡ 0 = omega arith in
    rw (b, octal_zero true k, a) (omega arith)

pub pentagon_over : (k x : ℕ) → 2 ≤ k → 5 ≤ x → x < 12 → octal (below true k (suc x)) ≡ x + 11
unfolding octal below
pentagon_over zero x l g h = absurd (let z : ⊥ = omega arith in z)
pentagon_over (suc k) x l g h =
    let a : suc (suc x) % 7 + 5 ≡ x = omega arith in
    let b : suc (suc x) / 7 ≡ 1 = omega arith in
    let c : octal (below true k 1) ≡ 2 = pentagon_block k 0 (omega arith) (omega arith) in
    rw b (omega (arith, c))

-- f in blocks of s from c on: block x has v for each one of g x
pub record Blocked (f g : ℕ → ℕ) (c s v : ℕ) : Type 0 where
  pub part : ℕ → ℕ
  pub at : (x q : ℕ) → q < s → f (c + (s * x + q)) ≡ part q + v * g x

pub blocked : (t : Bool) (b u m i : ℕ) → i ≤ m → Blocked (number_at b u t m) (λ x. octal (below t (m - i) (nth t x))) (origin t i) (7 ^ i) (u * 8 ^ i)
unfolding number_at
blocked t b u m i h =
    let e : i + (m - i) ≡ m = omega arith in
    record {
      part = λ q. b + u * octal (below false i q);
      at = λ x q l. sums (octal (below false i q)) (8 ^ i) (octal (below t (m - i) (nth t x))) (rw e at (octal_block t i (m - i) x q l));
    }
  where
    sums : (a w y : ℕ) → {z : ℕ} → z ≡ a + w * y → b + u * z ≡ b + u * a + u * w * y
    sums a w y e = rw e (omega arith)

module _ (f g : ℕ → ℕ) (c s v : ℕ) (one : 1 ≤ s) (w : Blocked f g c s v) (lo hi e k : ℕ) (low : e ≤ lo) (up : (x : ℕ) → lo ≤ x → x < hi → g x ≡ g (x - e) + k) where
  over : (p : ℕ) → c + s * lo ≤ p → p < c + s * hi → f p ≡ f (p - s * e) + v * k
  over p h l =
      let x : ℕ = (p - c) / s in
      let q : ℕ = (p - c) % s in
      let r : q < s = mod-lt (p - c) one in
      let d : x * s + q ≡ p - c = div-add-mod' (p - c) s in
      let i : lo ≤ x = (le-div_iff_mul-le one).1 (omega arith) in
      let j : x < hi = (div-lt_iff_lt-mul one).1 (omega arith) in
      let a : p ≡ c + (s * x + q) = omega arith in
      let b : p - s * e ≡ c + (s * (x - e) + q) = ap (λ (z : ℕ). z - s * e) a ∙ back x q (omega arith) in
      ap f a ∙ w.at x q r ∙ join (w.part q) (g x) (g (x - e)) (up x i j) ∙ ap (λ (z : ℕ). z + v * k) (sym (w.at (x - e) q r) ∙ ap f (sym b))
    where
      back : (x q : ℕ) → e ≤ x → c + (s * x + q) - s * e ≡ c + (s * (x - e) + q)
      back x q h =
          let y : s * x ≡ s * (x - e + e) = ap (λ (z : ℕ). s * z) (let y : x ≡ x - e + e = omega arith in y) in
          omega arith

      join : (a y z : ℕ) → y ≡ z + k → a + v * y ≡ a + v * z + v * k
      join a y z g = rw g (omega arith)

  -- the blocks lo to hi - 1 are those e before them, copied with a step
  pub spread : lo ≤ hi → 1 ≤ e → ((p : ℕ) → f p < 2 ^ 64) → (b l l' : List ℕ) (a z d t : ℕ) → a ≡ c + s * lo → z ≡ c + s * hi → d ≡ s * e → t ≡ v * k → z ≤ length b →
      l ≡ tab f a ++ drop a b → l' ≡ copies l a (z - a) d t → l' ≡ tab f z ++ drop z b
  spread o i fits b l l' a z d t ea ez ed et len h q =
      let x : s * 1 ≤ s * e = mul-le-mul_left s i in
      let y : s * e ≤ s * lo = mul-le-mul_left s low in
      let n : s * lo ≤ s * hi = mul-le-mul_left s o in
      q ∙ copied f b l a z d t (omega arith) (omega arith) (omega arith) len fits (λ p m r. rw (ed, et) (over p (rw ea at m) (rw ez at r))) h

-- every number below a first child fits
pub number_fits : (b u m : ℕ) (t : Bool) → u * 8 ^ m ≤ 2 ^ 45 → b < 2 ^ 63 → (p : ℕ) → number_at b u t m p < 2 ^ 64
unfolding number_at
number_fits b u m t h g p =
    let l : octal (below t m p) < 8 ^ m = subst (λ (k : ℕ). octal (below t m p) < 8 ^ k) (length_below t m p) (octal_lt (below t m p) (digits_below t m p)) in
    let k : u * octal (below t m p) ≤ u * 8 ^ m = mul-le-mul_left u (omega arith) in
    omega arith

pub number_first : (b u m : ℕ) (t : Bool) → b ≡ number_at b u t m 0
unfolding number_at
number_first b u m t = rw (octal_zero t m) (omega arith)
