-- What the loop of `advance` keeps from round to round, in the words of its calls. Assumes nothing.
use mathlib.Core.Path.{◌≡◌, refl, sym, ap, ◌∙◌, subst}
use mathlib.Core.Bool.{Bool, true, false, ◌&&◌}
use mathlib.Core.Logic.{◌⊎◌, inl, inr}
use mathlib.Core.List.{List}
use Prim.Native.Nat.{ℕ, zero, suc, ◌+◌, ◌-◌, ◌*◌, ◌/◌, ◌%◌, ◌^◌, ◌≤◌, ◌<◌}
use native.Mathlib.Nat.{pow-suc, pow-le-pow_right}
use native.Mathlib.Omega.{arith}
use lib.Dec.{eqb}
use lib.IntN.{ℤ, pos, negsuc, pred_ℤ, ◌-ℤ◌, -ℤ_one}
use Rattle.std.proofs.Math.Bool.{and-false}
use borrow.Author.Tests.{eq-eqb, ne_eqb}
use mir.Syntax.{w32}
use mir.Val.{SFits, to_z, of_z}
use mir.Facts.{to_z-of_z}
use Rattle.index.specs.Layout.{digit, res_of}
use Rattle.index.specs.View.{octal}
use Rattle.plane.specs.Strings.{Digits}
use Rattle.plane.proofs.Bounds.{fits, rd, equal_bits}
use Rattle.index.proofs.Runs.{place, eights_pos}
use Rattle.children.specs.Skips.{Inner, Following}
use Rattle.children.specs.declared.children.Cursor.{Cursor}
use Rattle.children.proofs.Carry.{skips_at, octs, carried, fallen, Advanced}
use Rattle.children.proofs.Moves.{inner_asked, follow}
use Rattle.children.proofs.Odometer as odo

pub record Kept (x : ℕ) (z : ℤ) (own target a r : ℕ) : Type 0 where
  pub low : own ≤ r
  pub high : r ≤ 15
  pub fits : a < 2 ^ 60
  pub small : Digits (octs (r - own) (a / 8 ^ (15 - r)))
  pub sum : let ds = octs (r - own) (a / 8 ^ (15 - r)) in
      let es = octs (target - own) (x / 8 ^ (15 - target)) in
      a + 8 ^ (15 - r) * octal (carried z own ds) + 8 ^ (15 - target) * octal es ≡ x + 8 ^ (15 - target) * octal (carried z own es) + 8 ^ (15 - r) * octal ds
  pub skip : fallen z own (octs (target - own) (x / 8 ^ (15 - target))) ≡ fallen z own (octs (r - own) (a / 8 ^ (15 - r)))

pub begin : (x : ℕ) (z : ℤ) (own target : ℕ) → own ≤ target → target ≤ 15 → x < 2 ^ 60 → Digits (octs (target - own) (x / 8 ^ (15 - target))) → Kept x z own target x target
begin x z own target l h f s = record { low = l; high = h; fits = f; small = s; sum = omega arith; skip = refl }

module _ (x : ℕ) (z : ℤ) (own target a r : ℕ) (k : Kept x z own target a r) where
  es : List ℕ
  es = octs (target - own) (x / 8 ^ (15 - target))

  K : ℕ
  K = 8 ^ (15 - target) * octal es

  L : ℕ
  L = x + 8 ^ (15 - target) * octal (carried z own es)

  sum : a + 8 ^ (15 - r) * octal (carried z own (octs (r - own) (a / 8 ^ (15 - r)))) + K ≡ L + 8 ^ (15 - r) * octal (octs (r - own) (a / 8 ^ (15 - r)))
  unfolding K L es
  sum = k.sum

  closing : (y : ℕ) (s : ℤ) → y + K ≡ L → fallen z own (octs (r - own) (a / 8 ^ (15 - r))) ≡ s → Advanced x z own target y s
  unfolding K L es
  closing y s p q = record { digits = p; skip = sym (k.skip ∙ q) }

  end : r ≤ own → Advanced x z own target a z
  end h = let d = odo.done z own a (8 ^ (15 - r)) (r - own) K L (omega arith) sum in closing a z d.0 d.1

  module _ (h : own < r) (one : ℕ) (eu : one ≡ 8 ^ (15 - r)) where
    one_small : one * 8 ≤ 2 ^ 45
    one_small =
        let t = k.high in
        let q : suc (15 - r) ≤ 15 = omega arith in
        let m : 8 ^ suc (15 - r) ≤ 8 ^ 15 = pow-le-pow_right (omega arith) q in
        omega (arith, pow-suc 8 (15 - r))

    one_pos : 0 < one
    one_pos = omega (arith, eights_pos (15 - r))

    left : 0 < r - own
    left = omega arith

    small' : Digits (octs (r - own) (a / one))
    small' = rw eu k.small

    sum' : a + one * octal (carried z own (octs (r - own) (a / one))) + K ≡ L + one * octal (octs (r - own) (a / one))
    sum' = rw eu sum

    skip' : (s : ℤ) → fallen z own (octs (r - own) (a / one)) ≡ s → fallen z own (octs (r - own) (a / 8 ^ (15 - r))) ≡ s
    skip' s e = rw eu at e

    module _ (d : ℕ) (ed : d ≡ digit (a + one) r) where
      read : d ≡ (a + one) / one % 8
      read = ed ∙ rw (place (15 - r), ← eu)

      test : (b : Bool) → eqb d 1 && skips_at z r ≡ b → eqb ((a + one) / one % 8) 1 && skips_at z (own + (r - own)) ≡ b
      test b e = let q : own + (r - own) ≡ r = omega arith in rw (q, ← read) e

      hop : eqb d 1 && skips_at z r ≡ true → Advanced x z own target (a + one + one) (pred_ℤ z)
      hop e =
          let p = odo.hop z own a one (r - own) K L one_pos left small' sum' (test true e) in
          closing (a + one + one) (pred_ℤ z) p.0 (skip' (pred_ℤ z) p.1)

      module _ (e : eqb d 1 && skips_at z r ≡ false) where
        hit : d < 7 → Advanced x z own target (a + one) z
        hit g =
            let p = odo.hit z own a one (r - own) K L one_pos left small' sum' (test false e) (subst (λ (i : ℕ). i < 7) read g) in
            closing (a + one) z p.0 (skip' z p.1)

        module _ (g : 7 ≤ d) where
          over : 7 ≤ (a + one) / one % 8
          over = subst (λ (i : ℕ). 7 ≤ i) read g

          enough : 7 * one ≤ a + one
          enough = odo.enough z own a one (r - own) K L one_pos left small' sum' (test false e) over

          unit : one * 8 ≡ 8 ^ (15 - (r - 1))
          unit =
              let t = k.high in
              let q : 15 - (r - 1) ≡ suc (15 - r) = omega arith in
              rw (q, pow-suc 8 (15 - r), eu)

          fewer : r - own - 1 ≡ r - 1 - own
          fewer = omega arith

          again : Kept x z own target (a + one - 7 * one) (r - 1)
          unfolding K L es
          again =
              let f = odo.shifted z own a one (r - own) K L one_pos left small' sum' (test false e) over in
              let w = k.high in
              let v = k.fits in
              record {
                low = omega arith;
                high = omega arith;
                fits = omega arith;
                small = rw (← unit, ← fewer, f) (odo.small_rest z own a one (r - own) K L one_pos left small' sum');
                sum = rw (← unit, ← fewer) (odo.again z own a one (r - own) K L one_pos left small' sum' (test false e) over);
                skip = k.skip ∙ skip' _ (odo.again_skip z own a one (r - own) K L one_pos left small' sum' (test false e) over) ∙ rw (← unit, ← fewer);
              }

-- the digit is not 1, or the skip is another resolution
abbrev pub Elsewhere : ℤ → ℕ → ℕ → Type 0
Elsewhere z r d = (d ≡ 1 → ⊥) ⊎ (of_z w32 z ≡ r → ⊥)

-- what a round makes of the number a, which has the digit d with `one` added
pub record Round (x : ℕ) (z : ℤ) (own target a r one d : ℕ) : Type 0 where
  pub hop : d ≡ 1 → of_z w32 z ≡ r → Following x own (a + one + one) (rd (rd z -ℤ pos 1))
  pub hit : Elsewhere z r d → d < 7 → Following x own (a + one) (rd z)
  pub enough : Elsewhere z r d → 7 ≤ d → 7 * one ≤ a + one
  pub again : Elsewhere z r d → 7 ≤ d → Kept x z own target (a + one - 7 * one) (r - 1)

small_fits : (r : ℕ) → r ≤ 15 → SFits w32 (pos r)
small_fits r h = fits (pos r) (omega arith)

skips : (z : ℤ) (r : ℕ) → SFits w32 z → r ≤ 15 → of_z w32 z ≡ r → z ≡ pos r
skips z r f h e = sym (to_z-of_z f) ∙ ap (to_z w32) e ∙ to_z-of_z (small_fits r h)

elsewhere : (z : ℤ) (r d : ℕ) → SFits w32 z → r ≤ 15 → Elsewhere z r d → eqb d 1 && skips_at z r ≡ false
elsewhere z r d f h (inl n) = rw (ne_eqb d 1 n)
elsewhere z r d f h (inr n) = let e : skips_at z r ≡ false = sym (equal_bits z (pos r) f (small_fits r h)) ∙ ne_eqb (of_z w32 z) r n in rw e (and-false (eqb d 1))

pred_fits : (r : ℕ) → r ≤ 15 → SFits w32 (pred_ℤ (pos r))
pred_fits zero h = fits (negsuc 0) (omega arith)
pred_fits (suc n) h = small_fits n (omega arith)

-- the skip, less one, read back
less_one : (z : ℤ) (r : ℕ) → SFits w32 z → r ≤ 15 → z ≡ pos r → rd (rd z -ℤ pos 1) ≡ pred_ℤ z
less_one z r f h e =
    ap (λ (u : ℤ). rd (u -ℤ pos 1)) (to_z-of_z f) ∙ ap rd (-ℤ_one z) ∙ to_z-of_z (subst (λ (u : ℤ). SFits w32 (pred_ℤ u)) (sym e) (pred_fits r h))

-- in the words of `advance`
module _ (s : Cursor) (h64 : s.number < 2 ^ 64) (f : SFits w32 s.skip) (q : Inner s.number s.skip s.own × (s.target ≡ res_of s.number)) where
  abbrev x : ℕ
  x = s.number

  abbrev z : ℤ
  z = s.skip

  abbrev own : ℕ
  own = s.own

  abbrev target : ℕ
  target = s.target

  abbrev i : Inner x z own
  i = q.0

  abbrev e : target ≡ res_of x
  e = q.1

  pub start : Kept x z own target x target
  start = let a = inner_asked x own z h64 i target e in begin x z own target a.0 a.1 a.2 a.3

  module _ (a r : ℕ) (k : Kept x z own target a r) where
    pub finish : (y : ℕ) → y ≡ a → r ≤ own → Following x own y (rd z)
    finish y g h = rw (g, to_z-of_z f) (follow x own z h64 i target a z e (end x z own target a r k h))

    module _ (h : own < r) (at one : ℕ) (ea : at ≡ r) (ew : one ≡ 8 ^ (15 - at)) where
      eu : one ≡ 8 ^ (15 - r)
      eu = rw (← ea) ew

      pub unit_small : one * 8 ≤ 2 ^ 45
      unit_small = one_small x z own target a r k h one eu

      pub round : (d : ℕ) → d ≡ digit (a + one) at → Round x z own target a r one d
      round d e' =
          let w = k.high in
          let ed : d ≡ digit (a + one) r = rw (← ea) e' in
          record {
            hop = λ g s.
                let z_is : z ≡ pos r = skips z r f (omega arith) s in
                let t : eqb d 1 && skips_at z r ≡ true = rw (g, z_is) (eq-eqb r r refl) in
                rw (less_one z r f (omega arith) z_is) (follow x own z h64 i target (a + one + one) (pred_ℤ z) e (hop x z own target a r k h one eu d ed t));
            hit = λ q g. rw (to_z-of_z f) (follow x own z h64 i target (a + one) z e (hit x z own target a r k h one eu d ed (elsewhere z r d f w q) g));
            enough = λ q g. enough x z own target a r k h one eu d ed (elsewhere z r d f w q) g;
            again = λ q g. again x z own target a r k h one eu d ed (elsewhere z r d f w q) g;
          }
