-- The first numbers below a cell by runs of siblings; and the numbers below a first child are the children. Assumes nothing.
use Rattle.std.proofs.Common.{◌≡◌, ℕ, zero, suc, ◌+◌, ◌-◌, ◌*◌, ◌^◌, ◌<◌, ◌≤◌, Bool, true, false, List, ◌++◌, length, drop, set, sym, refl, ap, ap₂, ◌∙◌, subst, lt-suc_self, length-set, arith}
use native.Mathlib.Nat.{le_step, pow-le-pow_right, mul-le-mul_right}
use borrow.Rule.Slice.PartMut.{mid_of, mid_len, put_mid}
use Rattle.index.specs.Layout.{res_of, Valid}
use Rattle.index.specs.View.{octal}
use Rattle.descent.specs.Descendants.{pentagon, count, count_of}
use Rattle.descent.specs.Positions.{below, child_at, tab, listing}
use Rattle.listing.specs.Copies.{ramp, stairs, number_at}
use Rattle.listing.specs.Filled.{nth_of, Filled}
use Rattle.listing.specs.declared.blocks.Numbers.{Numbers}
use Rattle.listing.proofs.Levels.{count_mono}
use Rattle.descent.proofs.Start as start
use Rattle.descent.proofs.Tab.{tab_none}
use Rattle.listing.proofs.Copies.{put, ramp_part, ramped, staired, again, then}
use Rattle.listing.proofs.Strides.{origin, nth, octal_block, hexagon_block, pentagon_block, pentagon_over, number_first}

-- the sibling j of the run x, whose own digits come to y
sibling : (t : Bool) (b u m x j y p v : ℕ) → 1 ≤ m → j < 7 → octal (below t (m - 1) (nth t x)) ≡ y → p ≡ origin t 1 + (7 * x + j) → v ≡ b + y * (8 * u) + j * u → v ≡ number_at b u t m p
unfolding number_at
sibling t b u m x j y p v h g e q w =
    let i : 1 + (m - 1) ≡ m = omega arith in
    let o : octal (below t m (origin t 1 + (7 * x + j))) ≡ octal (below false 1 j) + 8 * octal (below t (m - 1) (nth t x)) = rw i at (octal_block t 1 (m - 1) x j g) in
    rw (q, o, hexagon_block 1 j (omega arith) g, e) (omega arith)

hexagon_each : (b u m j : ℕ) → 1 ≤ m → j < 7 → b + j * u ≡ number_at b u false m (0 + j)
unfolding number_at
hexagon_each b u m j h g = let z : 0 + j ≡ j = omega arith in rw (z, hexagon_block m j h g) (omega arith)

pentagon_each : (b u m j : ℕ) → 1 ≤ m → j < 5 → b + 2 * u + j * u ≡ number_at b u true m (1 + j)
unfolding number_at
pentagon_each b u m j h g = let z : 1 + j ≡ suc j = omega arith in rw (z, pentagon_block m j h g) (omega arith)

module _ (n : Numbers) (t : Bool) where
  -- k of the numbers that are i levels down
  module _ (i k : ℕ) (e : k ≤ count t i) where
    pub room : (l : List ℕ) → i ≤ n.levels → count t n.levels ≤ length l → k ≤ length l
    room l h r = omega (arith, count_mono t i n.levels h)

    -- what runs up to there ask: room, and that their numbers fit
    pub asked : (l l' : List ℕ) → length l' ≡ length l → i ≤ n.levels → count t n.levels ≤ length l → (k ≤ length l') × (n.first + 512 * n.unit < 2 ^ 64)
    asked l l' e h r = (omega (arith, room l h r), omega (arith, n.narrow, n.low))

    -- and after them the others
    pub grown : (b l l' : List ℕ) → i ≤ n.levels → Filled n t k b l → Filled n t (count t n.levels) l l' → Filled n t (count t n.levels) b l'
    grown b l l' h f g = then (nth_of n t) b l k f l' (count t n.levels) (omega (arith, count_mono t i n.levels h)) g

  -- all of them
  pub whole : (i k : ℕ) → k ≡ count t i → (b l : List ℕ) → n.levels ≡ i → Filled n t k b l → Filled n t (count t n.levels) b l
  whole i k e b l h f = subst (λ (x : ℕ). Filled n t x b l) (e ∙ ap (count t) (sym h)) f

  -- one call after another
  pub stands : (k : ℕ) (b l : List ℕ) → Filled n t k b l → Filled n t k l l
  stands k b l f = again (nth_of n t) b l k f

module _ (n : Numbers) (l : List ℕ) where
  -- the numbers of a run over the elements from a to e
  pub run_fits : (a e q : ℕ) → e ≤ length l → e ≤ a + 7 → q ≤ n.first + 2 * n.unit → q + length (mid_of a (e - a) l) * n.unit < 2 ^ 64
  run_fits a e q h g w =
      let z : (e - a) * n.unit ≤ 7 * n.unit = mul-le-mul_right n.unit (omega arith) in
      rw (mid_len a e l h) (omega (arith, z, n.narrow, n.low))

  one : (t : Bool) → 0 < length l → Filled n t 1 l (set l 0 n.first)
  one t h = put (nth_of n t) l n.first h (number_first n.first n.unit n.levels t)

  pub itself : (t : Bool) → 1 ≡ count t 0 → n.levels ≡ 0 → count t n.levels ≤ length l → Filled n t (count t n.levels) l (set l 0 n.first)
  itself t e h r = whole n t 0 1 e l _ h (one t (room n t 0 1 (omega (arith, e)) l (omega arith) r))

  -- below a hexagon
  module _ (r : count false n.levels ≤ length l) where
    pub hexagon_7 : (p : List ℕ) → 1 ≤ n.levels → p ≡ ramp (mid_of 0 7 l) 0 n.first n.unit (length (mid_of 0 7 l)) → Filled n false 7 l (put_mid 0 7 l p)
    hexagon_7 p h q =
        let k = room n false 1 7 (omega arith) l h r in
        ramp_part l p 0 7 n.first n.unit (omega arith) k 7 refl q ∙ ramped (nth_of n false) l l 0 n.first n.unit 7 k (λ j. hexagon_each n.first n.unit n.levels j h) (tab_none _ l)

    pub hexagon_49 : (l' : List ℕ) → 2 ≤ n.levels → l' ≡ stairs l 0 n.first n.unit 7 → Filled n false 49 l l'
    hexagon_49 l' h q =
        q ∙ staired (nth_of n false) l l 0 n.first n.unit 7 (room n false 2 49 (omega arith) l h r)
        (λ x j g i. sibling false n.first n.unit n.levels x j x (0 + 7 * x + j) (n.first + x * (8 * n.unit) + j * n.unit) (omega arith) i (hexagon_block (n.levels - 1) x (omega arith) g) (omega arith) refl) (tab_none _ l)

  -- below a pentagon, where p is what a run made of the elements 1 to 5
  abbrev pub before : List ℕ
  before = set l 0 n.first

  abbrev pub six : List ℕ → List ℕ
  six p = put_mid 1 5 before p

  module _ (r : count true n.levels ≤ length l) (p : List ℕ) (q₁ : p ≡ ramp (mid_of 1 5 before) 0 (n.first + 2 * n.unit) n.unit (length (mid_of 1 5 before))) where
    pub pentagon_6 : 1 ≤ n.levels → Filled n true 6 l (six p)
    pentagon_6 h =
        let k = room n true 1 6 (omega arith) l h r in
        ramp_part before p 1 6 (n.first + 2 * n.unit) n.unit (omega arith) (omega (arith, k, length-set l 0 n.first)) 5 refl q₁
        ∙ ramped (nth_of n true) l before 1 (n.first + 2 * n.unit) n.unit 5 k (λ j. pentagon_each n.first n.unit n.levels j h) (one true (omega arith))

    pub pentagon_41 : (l' : List ℕ) → 2 ≤ n.levels → l' ≡ stairs (six p) 6 (n.first + 16 * n.unit) n.unit 5 → Filled n true 41 l l'
    pentagon_41 l' h q =
        q ∙ staired (nth_of n true) l (six p) 6 (n.first + 16 * n.unit) n.unit 5 (room n true 2 41 (omega arith) l h r)
        (λ x j g i. sibling true n.first n.unit n.levels x j (x + 2) (6 + 7 * x + j) (n.first + 16 * n.unit + x * (8 * n.unit) + j * n.unit) (omega arith) i (pentagon_block (n.levels - 1) x (omega arith) g) (omega arith) (omega arith)) (pentagon_6 (omega arith))

    pub pentagon_90 : (l₂ l' : List ℕ) → 3 ≤ n.levels → l₂ ≡ stairs (six p) 6 (n.first + 16 * n.unit) n.unit 5 → l' ≡ stairs l₂ 41 (n.first + 128 * n.unit) n.unit 7 → Filled n true 90 l l'
    pentagon_90 l₂ l' h q₂ q =
        q ∙ staired (nth_of n true) l l₂ 41 (n.first + 128 * n.unit) n.unit 7 (room n true 3 90 (omega arith) l h r)
        (λ x j g i. sibling true n.first n.unit n.levels (x + 5) j (x + 5 + 11) (41 + 7 * x + j) (n.first + 128 * n.unit + x * (8 * n.unit) + j * n.unit) (omega arith) i (pentagon_over (n.levels - 1) (x + 5) (omega arith) (omega arith) (omega arith)) (omega arith) (omega arith)) (pentagon_41 l₂ (omega arith) q₂)

tab_same : (f g : ℕ → ℕ) (k : ℕ) → ((p : ℕ) → p < k → f p ≡ g p) → tab f k ≡ tab g k
unfolding tab
tab_same f g zero h = refl
tab_same f g (suc k) h = rw (tab_same f g k (λ p l. h p (le_step l)), h k (lt-suc_self k))

-- the numbers of a descent from n to t, in the words of the calls: w is t, and y is n
module _ (n t : ℕ) (h64 : n < 2 ^ 64) (v : Valid n) (lo : res_of n ≤ t) (hi : t ≤ 15) (f u m w : ℕ) (ef : f ≡ child_at n t 0) (ew : w ≡ t) (eu : u ≡ 8 ^ (15 - w)) (em : m ≡ t - res_of n) where
  unit_is : u ≡ 8 ^ (15 - t)
  unit_is = eu ∙ ap (λ (x : ℕ). 8 ^ (15 - x)) ew

  pub bounds : (m ≤ 15) × (u ≤ 2 ^ 45) × (u * 8 ^ m ≤ 2 ^ 45) × (f < 2 ^ 63)
  bounds =
      let l : 8 ^ (15 - t) ≤ 8 ^ 15 = pow-le-pow_right (omega arith) {i = 15 - t} {j = 15} (omega arith) in
      let r : u * 8 ^ m ≤ 2 ^ 45 = rw (unit_is, em) (start.unit_room n t h64 v lo hi) in
      (omega arith, omega (arith, unit_is), r, omega (arith, start.child_fits n t h64 v lo hi 0 (start.some_child n t h64 v lo hi)))

  module _ (y : ℕ) (p q : Bool) (is : q ≡ p) (ey : y ≡ n) (eq : q ≡ pentagon y) where
    which : p ≡ pentagon n
    which = sym is ∙ eq ∙ ap pentagon ey

    counted : count p m ≡ count_of n t
    counted = ap₂ count which em

    each : (x : ℕ) → x < count_of n t → number_at f u p m x ≡ child_at n t x
    unfolding number_at
    each x h = rw (which, ef, unit_is, em) (start.child_sum n t h64 v lo hi x h)

    pub listed : (b l : List ℕ) → l ≡ tab (number_at f u p m) (count p m) ++ drop (count p m) b → l ≡ listing n t ++ drop (count_of n t) b
    unfolding listing
    listed b l e = (rw counted at e) ∙ ap (λ (x : List ℕ). x ++ drop (count_of n t) b) (tab_same _ _ (count_of n t) each)
