-- Reading a centre back, one digit at a time: the point q, its up, and the digit that is left. A string has the point q exactly where its finest
-- digit is that one and the rest has the point up. Assumes nothing.
use mathlib.Core.Path.{◌≡◌, refl, sym, ap, ap₂, ◌∙◌, subst}
use mathlib.Core.Bool.{Bool}
use mathlib.Core.List.{List, [], ◌∷◌}
use Prim.Native.Nat.{ℕ, zero, suc, ◌+◌, ◌-◌, ◌*◌, ◌/◌, ◌%◌, ◌^◌, ◌<◌, ◌≤◌}
use native.Mathlib.Nat.{div-one}
use native.Mathlib.Omega.{arith}
use lib.IntN.{ℤ, pos, nat_abs}
use lib.ListN.{length}
use Rattle.std.specs.Prelude.{Some}
use Rattle.plane.specs.Directions.{triple, vec, unit}
use Rattle.plane.specs.Points.{normal, Same, pair, ij, plus, minus, down7, up7, direction_of}
use Rattle.plane.specs.Ranges.{Within, Broad}
use Rattle.plane.specs.Strings.{Digits, odd, centre}
use Rattle.plane.specs.declared.ijk.IJK.{IJK}
use Rattle.plane.specs.declared.ijk.IJ.{IJ}
use Rattle.plane.proofs.Bounds.{within_minus, within_broad}
use Rattle.plane.proofs.Pairs.{◌⊕◌, ◌⊖◌, ij_plus, ij_minus, ij_normal, ij_same, same_ij}
use Rattle.plane.proofs.Normal.{normal_same}
use Rattle.plane.proofs.Neighbours.{cancelled}
use Rattle.plane.proofs.Units.{direction_found}
use Rattle.plane.proofs.Ups.{up_ij, some_way}
use Rattle.plane.proofs.Centres.{same_under, up_centre}
use Rattle.plane.proofs.Sizes.{normal_within, up_broad, under_broad}
use Rattle.index.specs.Layout.{digit, top_bit, mode_of, reserved_of, res_of, base_of, Valid}
use Rattle.index.specs.View.{used, pack}
use Rattle.index.specs.Refusals.{Outcome, answered, refused}
use Rattle.index.specs.Written.{Written, WithDigits}
use Rattle.index.proofs.Runs.{run, length_used, sevens_back}
use Rattle.index.proofs.Sum.{sum_base, sum_res, sum_low, sum_reserved, sum_mode, sum_top}
use Rattle.index.proofs.View.{pack_valid}
use Rattle.index.proofs.Redrawn.{redrawn_pack}
use Rattle.index.proofs.Loose.{bare}
use Rattle.centres.specs.Centres.{StringOf, Reads}
use Rattle.centres.proofs.Centres.{within_more}

-- sizes: the IJ form tells them
broad_ij : (n : ℕ) (s t : IJK) → ij s ≡ ij t → Broad n t → Broad n s
broad_ij n s t e b =
    record {
      i = subst (λ (z : ℤ). nat_abs z ≤ n) (ap (λ (p : IJ). p.i) (sym e)) b.i;
      j = subst (λ (z : ℤ). nat_abs z ≤ n) (ap (λ (p : IJ). p.j) (sym e)) b.j;
    }

pub broad_more : (m n : ℕ) (t : IJK) → m ≤ n → Broad m t → Broad n t
broad_more m n t h b = record { i = omega arith; j = omega arith }

-- a point on the way up
pub record Sized (q : IJK) : Type 0 where
  pub broad : Broad 200000000 q
  pub within : Within 400000000 q

pub sized_normal : (p : IJK) → Within 100000000 p → Sized (normal p)
sized_normal p w =
    let b = within_broad 100000000 200000000 p (omega arith) w in
    record { broad = broad_ij 200000000 (normal p) p (ij_normal p) b; within = normal_within 200000000 p b }

module _ (o : Bool) (q : IJK) (s : Sized q) where
  up_narrow : Broad 114285715 (up7 o q)
  up_narrow = up_broad o 200000000 114285715 q (omega arith) s.broad

  pub up_small : Within 250000000 (up7 o q)
  up_small =
      let p = up_ij o (ij q) in
      let t = triple p.i p.j (pos 0) in
      within_more 228571430 250000000 (up7 o q) (omega arith) (normal_within 114285715 t (broad_ij 114285715 t (up7 o q) (sym (ij_normal t)) up_narrow))

  pub sized_up : Sized (up7 o q)
  sized_up =
      record {
        broad = broad_more 114285715 200000000 (up7 o q) (omega arith) up_narrow;
        within = within_more 250000000 400000000 (up7 o q) (omega arith) up_small;
      }

  pub under_small : Within 500000000 (normal (down7 o (up7 o q)))
  under_small = within_more 400000002 500000000 (normal (down7 o (up7 o q))) (omega arith) (normal_within 200000001 (down7 o (up7 o q)) (under_broad o 200000000 q s.broad))

  pub point_small : Within 500000000 q
  point_small = within_more 400000000 500000000 q (omega arith) s.within

  pub left_small : Within 1000000000 (minus q (normal (down7 o (up7 o q))))
  left_small = within_minus 500000000 500000000 q (normal (down7 o (up7 o q))) point_small under_small

-- the digit that is left
pub less_ij : (p u : IJ) → (p ⊕ u) ⊖ p ≡ u
less_ij p u = ap₂ pair (cancelled p.i u.i) (cancelled p.j u.j)

pub left_digit : (o : Bool) (q : IJK) → (d : ℕ) × (d < 7) × Same q (plus (down7 o (up7 o q)) (unit d)) × (direction_of (minus q (normal (down7 o (up7 o q)))) ≡ Some d)
left_digit o q =
    let w = some_way o q in
    let t = down7 o (up7 o q) in
    let u = unit w.0 in
    let e : ij (minus q (normal t)) ≡ ij u =
    ij_minus q (normal t) ∙ ap₂ ◌⊖◌ (same_ij q (plus t u) w.2 ∙ ij_plus t u) (ij_normal t) ∙ less_ij (ij t) (ij u) in
    (w.0, w.1, w.2, (direction_found (minus q (normal t)) w.0).1 (w.1, ij_same (minus q (normal t)) u e))

-- one digit
pub longer : (r d : ℕ) (xs : List ℕ) (q : IJK) → d < 7 → Same q (plus (down7 (odd (suc r)) (up7 (odd (suc r)) q)) (unit d)) → StringOf r (up7 (odd (suc r)) q) xs → StringOf (suc r) q (d ∷ xs)
longer r d xs q h e s =
    let up = up7 (odd (suc r)) q in
    record {
      long = ap suc s.long;
      digits = (h, s.digits);
      point = normal_same (plus (down7 (odd (suc (length xs))) (centre xs)) (unit d)) ∙ ap (λ (m : ℕ). normal (plus (down7 (odd (suc m)) (centre xs)) (unit d))) s.long ∙ same_under (odd (suc r)) (centre xs) up d s.point ∙ sym e;
    }

pub shorter : (r : ℕ) (xs : List ℕ) (q : IJK) → StringOf (suc r) q xs → (ys : List ℕ) × StringOf r (up7 (odd (suc r)) q) ys
shorter r [] q s = absurd (let l = s.long in omega arith)
shorter r (d ∷ xs) q s =
    let l : length xs ≡ r = let m = s.long in omega arith in
    let e = up_centre d xs q s.digits.0 (sym s.point) in (
      xs,
      record {
        long = l;
        digits = s.digits.1;
        point = ap normal (sym e ∙ ap (λ (m : ℕ). up7 (odd (suc m)) q) l);
      },
    )

-- the loop: k is the length, p the point, n the number that was begun with
pub record Reading (n k : ℕ) (p : IJK) (y r : ℕ) (q : IJK) : Type 0 where
  pub place : r ≤ k
  pub upper : y / 2 ^ 45 ≡ n / 2 ^ 45
  pub rest : (s : ℕ) → k < s → s ≤ 15 → digit y s ≡ digit n s
  pub sized : Sized q
  pub small : (t : ℕ) → ((s : ℕ) → r < s → s ≤ 15 → digit t s ≡ digit y s) → Digits (used t r) → Digits (used t k)
  pub so : (t : ℕ) → ((s : ℕ) → r < s → s ≤ 15 → digit t s ≡ digit y s) → StringOf r q (used t r) → StringOf k p (used t k)
  pub back : (ds : List ℕ) → StringOf k p ds → (xs : List ℕ) × StringOf r q xs

pub begun : (n k : ℕ) (p : IJK) → Sized p → Reading n k p n k p
begun n k p s =
    record { place = omega arith; upper = refl; rest = λ s g l. refl; sized = s; small = λ t f x. x; so = λ t f x. x; back = λ ds x. (ds, x) }

pub onward : (n k : ℕ) (p : IJK) (y r : ℕ) (q : IJK) (d z : ℕ) → k ≤ 15 → 0 < r → Reading n k p y r q → d < 7 → Same q (plus (down7 (odd r) (up7 (odd r) q)) (unit d)) → Written y r d z → Reading n k p z (r - 1) (up7 (odd r) q)
unfolding used
onward n k p y zero q d z hk g w hd e t = absurd (omega arith)
onward n k p y (suc r) q d z hk g w hd e t =
    let o = odd (suc r) in
    let m : suc r - 1 ≡ r = omega arith in
    let l = w.place in
    subst (λ (x : ℕ). Reading n k p z x (up7 o q)) (sym m)
    (record {
      place = omega arith;
      upper = t.upper ∙ w.upper;
      rest = λ s a b. t.other s (omega arith) b (λ x. omega arith) ∙ w.rest s a b;
      sized = sized_up o q w.sized;
      small = λ u f x.
          w.small u (λ s a b. f s (omega arith) b ∙ t.other s (omega arith) b (λ c. omega arith))
          (subst (λ (c : ℕ). c < 7) (sym (f (suc r) (omega arith) (omega arith) ∙ t.there)) hd, x);
      so = λ u f x.
          w.so u (λ s a b. f s (omega arith) b ∙ t.other s (omega arith) b (λ c. omega arith))
          (subst (λ (c : ℕ). StringOf (suc r) q (c ∷ used u r)) (sym (f (suc r) (omega arith) (omega arith) ∙ t.there)) (longer r d (used u r) q hd e x));
      back = λ ds x. let b = w.back ds x in shorter r b.0 q b.1;
    })

-- the number that is begun with: resolution k in base cell 0, each digit 7
module _ (n k : ℕ) (hk : k ≤ 15) (e : n ≡ 2 ^ 59 + k * 2 ^ 52 + 0 * 2 ^ 45 + (2 ^ 45 - 1)) where
  low_lt : 2 ^ 45 - 1 < 2 ^ 45
  low_lt = omega arith

  unset_res : res_of n ≡ k
  unset_res = ap res_of e ∙ sum_res k 0 (2 ^ 45 - 1) hk (omega arith) low_lt

  unset_base : base_of n ≡ 0
  unset_base = ap base_of e ∙ sum_base k 0 (2 ^ 45 - 1) hk (omega arith) low_lt

  unset_run : run n 0 15 ≡ 8 ^ 15 - 1
  unfolding run
  unset_run = ap (λ (x : ℕ). x % 2 ^ 45) (div-one n ∙ e) ∙ sum_low k 0 (2 ^ 45 - 1) hk (omega arith) low_lt

  unset_seven : (s : ℕ) → 1 ≤ s → s ≤ 15 → digit n s ≡ 7
  unset_seven s g l = sevens_back n 0 15 (omega arith) unset_run s g l

  -- the digits are read: whatever point is left, they make a cell of base cell 0
  pub read : (p : IJK) (y : ℕ) (q : IJK) → y < 2 ^ 64 → Reading n k p y 0 q → (y ≡ pack 0 (used y k)) × Valid y
  unfolding used
  read p y q h w =
      let d : WithDigits n (used y k) y = record {
        upper = w.upper;
        digits = ap (used y) unset_res;
        rest = λ x g l. w.rest x (subst (λ (m : ℕ). m < x) unset_res g) l;
      } in
      let f : y ≡ pack (base_of n) (used y k) = redrawn_pack n (used y k) y h (ap top_bit e ∙ sum_top k 0 (2 ^ 45 - 1) hk (omega arith) low_lt) (ap mode_of e ∙ sum_mode k 0 (2 ^ 45 - 1) hk (omega arith) low_lt) (ap reserved_of e ∙ sum_reserved k 0 (2 ^ 45 - 1) hk (omega arith) low_lt) (λ r g l. unset_seven r (omega arith) l) d in
      let f0 : y ≡ pack 0 (used y k) = f ∙ ap (λ (b : ℕ). pack b (used y k)) unset_base in
      let short : length (used y k) ≤ 15 = rw length_used hk in
      (f0, subst Valid (sym f0) (pack_valid 0 (used y k) (bare 0 (used y k) (omega arith) short (w.small y (λ s g l. refl) tt))))

  -- and the point that is left is 0
  pub found : (p : IJK) (y : ℕ) (q : IJK) → y < 2 ^ 64 → Reading n k p y 0 q → Same q (vec 0 0 0) → Reads k p (answered y)
  unfolding used
  found p y q h w z = (used y k, w.so y (λ s g l. refl) (record { long = refl; digits = tt; point = sym z }), (read p y q h w).0)

-- or it is not
pub none : (n k : ℕ) (p : IJK) (y : ℕ) (q : IJK) → Reading n k p y 0 q → (Same q (vec 0 0 0) → ⊥) → Reads k p (refused 15)
none n k p y q w f = (refl, λ ds s. let b = w.back ds s in empty b.0 b.1)
  where
    empty : (xs : List ℕ) → StringOf 0 q xs → ⊥
    empty [] s = f (sym s.point)
    empty (x ∷ xs) s = let l = s.long in omega arith

-- a string of a point is one of the same point
pub string_same : (r : ℕ) (p q : IJK) (ds : List ℕ) → Same p q → StringOf r p ds → StringOf r q ds
string_same r p q ds e s = record { long = s.long; digits = s.digits; point = s.point ∙ e }

pub reads_same : (r : ℕ) (p q : IJK) → Same p q → (x : Outcome ℕ) → Reads r p x → Reads r q x
reads_same r p q e (answered n) h = (h.0, string_same r p q h.0 e h.1, h.2)
reads_same r p q e (refused k) h = (h.0, λ ds s. h.1 ds (string_same r q p ds (sym e) s))
