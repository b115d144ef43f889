-- The position of a cell below its ancestor at `own`, m resolutions up, from the word of the digits between, in the words of the calls of
-- `rank_of`. Assumes nothing.
use mathlib.Core.Path.{◌≡◌, sym, ap, ◌∙◌, subst}
use mathlib.Core.Bool.{Bool, true, false}
use mathlib.Core.List.{List}
use Prim.Native.Nat.{ℕ, zero, suc, ◌+◌, ◌-◌, ◌*◌, ◌/◌, ◌%◌, ◌^◌, ◌≤◌, ◌<◌}
use native.Mathlib.Nat.{pow-le-pow_right}
use native.Mathlib.Omega.{arith}
use lib.Count.{count_leading_zeros}
use Rattle.index.specs.Layout.{res_of, Valid}
use Rattle.index.specs.View.{octal}
use Rattle.index.specs.Ancestor.{ancestor_of}
use Rattle.index.proofs.Runs.{run, run_zero, run_suc}
use Rattle.index.proofs.View.{run_lt}
use Rattle.descent.specs.Descendants.{pentagon, count}
use Rattle.descent.specs.Positions.{below, rank, seg}
use Rattle.descent.proofs.Counts.{ones, ones_six}
use Rattle.descent.proofs.Exact.{digits_back}
use Rattle.descent.proofs.Ancestors.{ancestor_above, own_is, owner_fits, owner_valid, owner_low}
use Rattle.descent.proofs.Shifts.{Led, octal_sixteen, led, led_most, led_long, shifted}

octal_seg : (y k m : ℕ) → k + m ≤ 15 → octal (seg y k m) ≡ run y k m
unfolding octal seg
octal_seg y k zero h = sym (run_zero y k)
octal_seg y k (suc m) h =
    let e : k + m + 1 ≡ k + suc m = omega arith in
    rw (octal_seg y k m (omega arith), e) (sym (run_suc y k m h))

-- the digits k + 1 to k + m of n are those of a position
abbrev Back : Bool → ℕ → ℕ → ℕ → Type 0
Back f n k m = (below f m (rank f (seg n k m)) ≡ seg n k m) × (rank f (seg n k m) < count f m)

moved : (f g : Bool) (n k i k' i' : ℕ) → g ≡ f → k ≡ k' → i ≡ i' → Back f n k i → Back g n k' i'
moved f g n k i k' i' e₁ e₂ e₃ h = rw (e₁, ← e₂, ← e₃) h

-- from the word v and the number p that is read from it: the position r, below a pentagon less what is taken
pub record Ranked (f : Bool) (v p r : ℕ) : Type 0 where
  pub hexagon : f ≡ false → p ≡ r
  pub few : f ≡ true → (66 - count_leading_zeros 64 v) / 3 ≤ 15
  pub pentagon : f ≡ true → (s : ℕ) → s ≡ 7 ^ ((66 - count_leading_zeros 64 v) / 3) → ((s - 1) / 6 ≤ p) × (p - (s - 1) / 6 ≡ r)

-- of the word v: it is short, and what is read from it gives the position r
pub record Word (f : Bool) (v r : ℕ) : Type 0 where
  pub short : v < 2 ^ 45
  pub ranked : (p : ℕ) → ((q : ℕ) → q < 7 ^ 16 → v ≡ octal (below false 16 q) → p ≡ q) → Ranked f v p r

module _ (n own fine x u v : ℕ) (f : Bool) (h64 : n < 2 ^ 64) (ok : Valid n) (low : own ≤ fine) (e : fine ≡ res_of n) (ef : f ≡ pentagon (ancestor_of n own))
    (ex : x ≡ 15 - (fine - own)) (eu : u ≡ 8 ^ (15 - x)) (ev : v ≡ n / 2 ^ (3 * (15 - fine)) % u) where
  abbrev m : ℕ
  m = fine - own

  abbrev xs : List ℕ
  xs = seg n own m

  back : Back f n own m
  back =
      let a : ℕ = ancestor_of n own in
      let l : own ≤ res_of n = rw (← e) low in
      let r = own_is n own h64 ok l in
      let d = digits_back a (res_of n) (owner_fits n own h64 ok l) (owner_valid n own h64 ok l) (owner_low n own h64 ok l) (omega arith) n (ancestor_above n own h64 ok l) in
      moved (pentagon a) f n (res_of a) (res_of n - res_of a) own m ef r (omega arith) d

  digits : v ≡ octal xs
  unfolding run
  digits =
      let k : 15 - x ≡ m = omega arith in
      let w : 15 - fine ≡ 15 - (own + m) = omega arith in
      ev ∙ rw (eu, k, w) (sym (octal_seg n own m (omega arith)))

  short : v < 2 ^ 45
  short =
      let l : 8 ^ m ≤ 8 ^ 15 = pow-le-pow_right (omega arith) {i = m} {j = 15} (omega arith) in
      omega (arith, digits, octal_seg n own m (omega arith), run_lt n own m)

  module _ (p : ℕ) (ep : (q : ℕ) → q < 7 ^ 16 → v ≡ octal (below false 16 q) → p ≡ q) where
    reads : (q : ℕ) → q < 7 ^ m → octal xs ≡ octal (below false m q) → p ≡ q
    reads q h g = let s = octal_sixteen m q (omega arith) h in ep q s.0 (digits ∙ g ∙ s.1)

    below_hexagon : f ≡ false → p ≡ rank f xs
    below_hexagon g = let b = rw g at back in rw g (reads (rank false xs) b.1 (ap octal (sym b.0)))

    module _ (g : f ≡ true) where
      b : Back true n own m
      b = rw g at back

      record Taken (j : ℕ) : Type 0 where
        few : j ≤ 15
        long : (66 - count_leading_zeros 64 v) / 3 ≡ j
        sum : p ≡ rank f xs + ones j

      taken_at : (j : ℕ) → j ≤ m → Led (rank true xs) j → Taken j
      taken_at j h w =
          let r : ℕ = rank true xs in
          let l : 7 ^ j ≤ 7 ^ m = pow-le-pow_right (omega arith) h in
          let o : octal xs ≡ octal (below true m r) = ap octal (sym b.0) in
          let s : p ≡ r + ones j = reads (r + ones j) (omega (arith, led_most r j w)) (o ∙ ap octal (shifted m r j w)) in
          record { few = omega arith; long = rw (digits ∙ o) (led_long m r j h (omega arith) w); sum = rw g s }

      taken : (j : ℕ) × Taken j
      taken = let w = led m (rank true xs) b.1 in (w.0, taken_at w.0 w.1 w.2)

    ranked : Ranked f v p (rank f xs)
    ranked = record {
      hexagon = below_hexagon;
      few = λ g. let t = (taken g).1 in omega (arith, t.few, t.long);
      pentagon = λ g s es.
          let t = taken g in
          let z : (s - 1) / 6 ≡ ones t.0 = rw (es, t.1.long) (ones_six t.0) in
          (omega (arith, z, t.1.sum), omega (arith, z, t.1.sum));
    }

  pub word : Word f v (rank f (seg n own (res_of n - own)))
  word = record { short = short; ranked = λ p ep. subst (λ (k : ℕ). Ranked f v p (rank f (seg n own (k - own)))) e (ranked p ep) }
