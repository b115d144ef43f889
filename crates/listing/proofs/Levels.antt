-- The loops that copy blocks, level by level. Assumes nothing.
use Rattle.std.proofs.Common.{◌≡◌, ℕ, zero, suc, ◌+◌, ◌-◌, ◌*◌, ◌/◌, ◌^◌, ◌<◌, ◌≤◌, Bool, true, false, List, length, sym, refl, ap, ◌∙◌, mul-le-mul_left, pow-suc, add-one, arith, pow-add}
use native.Mathlib.Nat.{pow-le-pow_right}
use Rattle.index.specs.View.{octal}
use Rattle.descent.specs.Descendants.{count}
use Rattle.descent.specs.Positions.{below}
use Rattle.listing.specs.Copies.{copies}
use Rattle.listing.specs.Filled.{nth_of, Filled}
use Rattle.listing.specs.declared.blocks.Numbers.{Numbers}
use Rattle.descent.proofs.Counts.{count_suc, count_small, sevens_pos}
use Rattle.listing.proofs.Copies.{copies_length}
use Rattle.listing.proofs.Strides.{origin, blocked, spread, hexagon_block, pentagon_block, pentagon_over, number_fits}

-- l is the buffer l₀ with all written to the end of the first block of the level j
pub record Level (n : Numbers) (t : Bool) (l₀ l : List ℕ) (at size step j : ℕ) : Type 0 where
  pub at_is : at ≡ origin t j
  pub size_is : size ≡ 7 ^ j
  pub step_is : step ≡ n.unit * 8 ^ j
  pub one : 1 ≤ size
  pub ends : at + size ≤ 7 ^ 15
  pub steps : step ≤ 2 ^ 45
  pub long : length l ≡ length l₀
  pub list : Filled n t (at + size) l₀ l

sevens_grow : (j s : ℕ) → s ≡ 7 ^ j → (s * 7 ≡ 7 ^ (j + 1)) × (1 ≤ s)
sevens_grow j s e = let p : 7 ^ (j + 1) ≡ 7 ^ j * 7 = pow-add 7 j 1 in (omega arith, omega (arith, sevens_pos j))

pub unit_room : (n : Numbers) (i : ℕ) → i ≤ n.levels → n.unit * 8 ^ i ≤ 2 ^ 45
unit_room n i h =
    let l : 8 ^ i ≤ 8 ^ n.levels = pow-le-pow_right (omega arith) {i = i} {j = n.levels} h in
    let k : n.unit * 8 ^ i ≤ n.unit * 8 ^ n.levels = mul-le-mul_left n.unit l in
    omega (arith, n.small)

eights_grow : (n : Numbers) (j s : ℕ) → j < n.levels → s ≡ n.unit * 8 ^ j → (s * 8 ≡ n.unit * 8 ^ (j + 1)) × (s * 8 ≤ 2 ^ 45)
eights_grow n j s h e =
    let p : 8 ^ (j + 1) ≡ 8 ^ j * 8 = pow-add 8 j 1 in
    let k : n.unit * 8 ^ (j + 1) ≤ 2 ^ 45 = unit_room n (j + 1) (omega arith) in
    let q : s * 8 ≡ n.unit * 8 ^ (j + 1) = rw (p, e) (omega arith) in
    (q, omega arith)

count_next : (j : ℕ) → count true (suc j) ≡ count true j + 5 * 7 ^ j
count_next zero = refl
count_next (suc j) = let s = pow-suc 7 j in omega (arith, count_suc (suc j), count_suc j, count_next j)

pub count_mono : (t : Bool) (i m : ℕ) → i ≤ m → count t i ≤ count t m
count_mono true i m h = let l : 7 ^ i ≤ 7 ^ m = pow-le-pow_right (omega arith) h in go (7 ^ i) (7 ^ m) l
  where
    go : (a b : ℕ) → a ≤ b → 1 + 5 * (a - 1) / 6 ≤ 1 + 5 * (b - 1) / 6
    go a b h = omega arith
count_mono false i m h = pow-le-pow_right (omega arith) h

-- from a level to the next, under a pentagon
pentagon_next : (j at size : ℕ) → at ≡ count true j → size ≡ 7 ^ j → at + 5 * size ≡ count true (j + 1)
pentagon_next j at size a s = rw (add-one, a, s) (sym (count_next j))

-- where the runs end
pub begun : (n : Numbers) (t : Bool) (l : List ℕ) (at : ℕ) → at ≡ origin t 2 → at ≤ 41 → 2 ≤ n.levels → Filled n t (at + 49) l l → Level n t l l at 49 (64 * n.unit) 2
begun n t l at a s h f = record {
  at_is = a;
  size_is = refl;
  step_is = omega arith;
  one = omega arith;
  ends = omega arith;
  steps = omega (arith, unit_room n 2 h);
  long = refl;
  list = f;
}

module _ (n : Numbers) (l₀ l : List ℕ) (at size step j : ℕ) where
  fits : (t : Bool) (p : ℕ) → nth_of n t p < 2 ^ 64
  fits t = number_fits n.first n.unit n.levels t n.small n.low

  module _ (k : count false n.levels ≤ length l₀) (v : Level n false l₀ l 0 size step j) where
    pub hexagon_room : j < n.levels → (size * 7 ≤ length l) × (size * 7 ≤ 7 ^ 15)
    hexagon_room h =
        let s = sevens_grow j size v.size_is in
        let c = count_mono false (j + 1) n.levels (omega arith) in
        let d = count_small false n.levels n.shallow in
        let k₀ = v.long in
        (omega arith, omega arith)

    pub hexagon_turn : j < n.levels → (l' : List ℕ) → l' ≡ copies l size (size * 7 - size) size step → Level n false l₀ l' 0 (size * 7) (step * 8) (j + 1)
    hexagon_turn h l' q =
        let s = sevens_grow j size v.size_is in
        let o = hexagon_room h in
        let z = eights_grow n j step h v.step_is in
        let i = v.size_is in
        let w = v.step_is in
        let k₀ = v.long in
        let up : (x : ℕ) → 1 ≤ x → x < 7 → octal (below false (n.levels - j) x) ≡ octal (below false (n.levels - j) (x - 1)) + 1 =
        λ x a z. hexagon_block (n.levels - j) x (omega arith) z ∙ omega (arith, hexagon_block (n.levels - j) (x - 1) (omega arith) (omega arith)) in
        let e : 0 + size ≡ size = omega arith in
        let e' : 0 + size * 7 ≡ size * 7 = omega arith in
        record {
          at_is = refl;
          size_is = s.0;
          step_is = z.0;
          one = omega arith;
          ends = omega (arith, o.1);
          steps = z.1;
          long = copies_length _ _ _ _ _ _ q ∙ v.long;
          list = rw e' (spread (nth_of n false) _ 0 (7 ^ j) (n.unit * 8 ^ j) (sevens_pos j) (blocked false n.first n.unit n.levels j (omega arith)) 1 7 1 1 (omega arith) up (omega arith) (omega arith) (fits false) l₀ l l' size (size * 7) size step (omega arith) (omega arith) (omega arith) (omega arith) (omega arith) (rw e at v.list) q);
        }

  module _ (k : count true n.levels ≤ length l₀) (v : Level n true l₀ l at size step j) where
    -- blocks 2 to 5
    pub pentagon_blocks : j < n.levels → (l' : List ℕ) → l' ≡ copies l (at + size) (at + 5 * size - (at + size)) size step → Filled n true (at + 5 * size) l₀ l'
    pentagon_blocks h l' q =
        let c = count_mono true (j + 1) n.levels (omega arith) in
        let d = pentagon_next j at size v.at_is v.size_is in
        let a = v.at_is in
        let i = v.size_is in
        let w = v.step_is in
        let up : (x : ℕ) → 1 ≤ x → x < 5 → octal (below true (n.levels - j) (suc x)) ≡ octal (below true (n.levels - j) (suc (x - 1))) + 1 =
        λ x y z. pentagon_block (n.levels - j) x (omega arith) z ∙ omega (arith, pentagon_block (n.levels - j) (x - 1) (omega arith) (omega arith)) in
        spread (nth_of n true) _ (count true j) (7 ^ j) (n.unit * 8 ^ j) (sevens_pos j) (blocked true n.first n.unit n.levels j (omega arith)) 1 5 1 1 (omega arith) up (omega arith) (omega arith) (fits true) l₀ l l' (at + size) (at + 5 * size) size step (omega arith) (omega arith) (omega arith) (omega arith) (omega arith) v.list q

    pub pentagon_room : j < n.levels - 1 → (at + 12 * size ≤ length l) × (at + 12 * size ≤ 7 ^ 15)
    pentagon_room h =
        let s = sevens_grow j size v.size_is in
        let d = pentagon_next j at size v.at_is v.size_is in
        let d' = pentagon_next (j + 1) (at + 5 * size) (size * 7) d s.0 in
        let c = count_mono true (j + 1 + 1) n.levels (omega arith) in
        let o = count_small true n.levels n.shallow in
        let k₀ = v.long in
        let f : at + 12 * size ≤ count true n.levels = past at size _ _ (sym d') c s.1 in
        (omega arith, omega arith)
      where
        past : (a s c m : ℕ) → c ≡ a + 5 * s + 5 * (s * 7) → c ≤ m → 1 ≤ s → a + 12 * s ≤ m
        past a s c m e h o = omega arith

    -- what each copy of a turn asks
    pub copy_asked : j < n.levels - 1 → (l' : List ℕ) (a e d : ℕ) → length l' ≡ length l → size ≤ d → d ≤ a → a ≤ e → e ≤ at + 12 * size → (1 ≤ d) × (d ≤ a) × (a ≤ e) × (e ≤ length l')
    copy_asked h l' a e d m o f g k = let r = pentagon_room h in (omega (arith, v.one), f, g, omega (arith, r.0))

    -- blocks 6 to 12, which are the first of the next level
    pub pentagon_turn : j < n.levels - 1 → (l₁ l₂ l₃ : List ℕ) → l₁ ≡ copies l (at + size) (at + 5 * size - (at + size)) size step →
        l₂ ≡ copies l₁ (at + 5 * size) (at + 5 * size + size - (at + 5 * size)) (5 * size) (14 * step) →
        l₃ ≡ copies l₂ (at + 5 * size + size) (at + 5 * size + 7 * size - (at + 5 * size + size)) size step →
        Level n true l₀ l₃ (at + 5 * size) (size * 7) (step * 8) (j + 1)
    pentagon_turn h l₁ l₂ l₃ q₁ q₂ q₃ =
        let f = nth_of n true in
        let a = v.at_is in
        let i = v.size_is in
        let w = v.step_is in
        let k₀ = v.long in
        let o = pentagon_room h in
        let e = eights_grow n j step (omega arith) v.step_is in
        let high : (x : ℕ) → 5 ≤ x → x < 12 → octal (below true (n.levels - j) (suc x)) ≡ x + 11 = λ x y z. pentagon_over (n.levels - j) x (omega arith) y z in
        let six : (x : ℕ) → 5 ≤ x → x < 6 → octal (below true (n.levels - j) (suc x)) ≡ octal (below true (n.levels - j) (suc (x - 5))) + 14 =
        λ x y z. high x y (omega arith) ∙ omega (arith, pentagon_block (n.levels - j) (x - 5) (omega arith) (omega arith)) in
        let rest : (x : ℕ) → 6 ≤ x → x < 12 → octal (below true (n.levels - j) (suc x)) ≡ octal (below true (n.levels - j) (suc (x - 1))) + 1 =
        λ x y z. high x (omega arith) z ∙ omega (arith, high (x - 1) (omega arith) (omega arith)) in
        let e₁ = pentagon_blocks (omega arith) l₁ q₁ in
        let e₂ = spread f _ (count true j) (7 ^ j) (n.unit * 8 ^ j) (sevens_pos j) (blocked true n.first n.unit n.levels j (omega arith)) 5 6 5 14 (omega arith) six (omega arith) (omega arith) (fits true) l₀ l₁ l₂ (at + 5 * size) (at + 5 * size + size) (5 * size) (14 * step) (omega arith) (omega arith) (omega arith) (omega arith) (omega arith) e₁ q₂ in
        let e₃ = spread f _ (count true j) (7 ^ j) (n.unit * 8 ^ j) (sevens_pos j) (blocked true n.first n.unit n.levels j (omega arith)) 6 12 1 1 (omega arith) rest (omega arith) (omega arith) (fits true) l₀ l₂ l₃ (at + 5 * size + size) (at + 5 * size + 7 * size) size step (omega arith) (omega arith) (omega arith) (omega arith) (omega arith) e₂ q₃ in
        let z : at + 5 * size + 7 * size ≡ at + 5 * size + size * 7 = omega arith in
        record {
          at_is = pentagon_next j at size a i;
          size_is = (sevens_grow j size i).0;
          step_is = e.0;
          one = omega arith;
          ends = omega (arith, o.1);
          steps = e.1;
          long = copies_length _ _ _ _ _ _ q₃ ∙ copies_length _ _ _ _ _ _ q₂ ∙ copies_length _ _ _ _ _ _ q₁ ∙ v.long;
          list = rw z at e₃;
        }

    pub pentagon_last : j + 1 ≡ n.levels → (at + 5 * size ≡ count true n.levels) × (at + 5 * size ≤ length l)
    pentagon_last e =
        let d = pentagon_next j at size v.at_is v.size_is ∙ ap (λ (x : ℕ). count true x) e in
        let o = count_small true n.levels n.shallow in
        let k₀ = v.long in
        (d, omega arith)
