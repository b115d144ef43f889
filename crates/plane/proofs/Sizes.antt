-- How large points get: a centre in normal form has components at least 0 and less than a third of 4 to the length; going up narrows the IJ form. Assumes nothing.
use mathlib.Core.Path.{◌≡◌, refl, sym, ap, ◌∙◌, subst}
use mathlib.Core.Bool.{Bool, true, false, cond}
use mathlib.Core.Logic.{⊎_elim}
use mathlib.Core.List.{List, [], ◌∷◌}
use Prim.Native.Nat.{ℕ, zero, suc, ◌+◌, ◌*◌, ◌/◌, ◌%◌, ◌<◌, ◌≤◌}
use native.Mathlib.Omega.{arith}
use native.Mathlib.Nat.{mul-le-mul_left}
use lib.IntN.{ℤ, pos, neg_ℤ, nat_abs, ◌+ℤ◌, ◌-ℤ◌, ◌*ℤ◌}
use lib.Signed.{le_z}
use lib.ListN.{length}
use Rattle.plane.specs.Directions.{unit}
use Rattle.plane.specs.Points.{lesser, least, normal, ij, plus, down7, sevenfold, up7}
use Rattle.plane.specs.Strings.{Digits, odd, centre}
use Rattle.plane.specs.Ranges.{Within, Broad}
use Rattle.plane.specs.declared.ijk.IJK.{IJK}
use Rattle.plane.specs.declared.ijk.IJ.{IJ}
use Rattle.plane.proofs.Every.{at_le}
use Rattle.plane.proofs.Whole.{whole, diffs, pp, np, sign, abs_parts, add_parts, neg_parts, mul_parts, lesser_parts}
use Rattle.plane.proofs.Bounds.{abs_add, abs_sub, abs_mul, abs_lesser, abs_nearest}
use Rattle.plane.proofs.Pairs.{ij_plus, same_ij, ij_of_ij, of_ij_ij}
use Rattle.plane.proofs.Ups.{up_ij, some_way}

-- at least 0, and at most n
pub record Upto (n : ℕ) (z : ℤ) : Type 0 where
  pub low : np z ≡ 0
  pub high : pp z ≤ n

pub record Box (n : ℕ) (t : IJK) : Type 0 where
  pub i : Upto n t.i
  pub j : Upto n t.j
  pub k : Upto n t.k

wider : (m n : ℕ) (z : ℤ) → m ≤ n → Upto m z → Upto n z
wider m n z h u = record { low = u.low; high = omega arith }

pick : (n : ℕ) (c : Bool) (x y : ℤ) → Upto n x → Upto n y → Upto n (cond c x y)
pick n true x y a b = a
pick n false x y a b = b

upto_add : (m n : ℕ) (x y : ℤ) → Upto m x → Upto n y → Upto (m + n) (x +ℤ y)
upto_add m n x y a b =
    ⊎_elim (λ (s : np (x +ℤ y) ≡ 0). record { low = s; high = omega (arith, add_parts x y) })
    (λ (s : pp (x +ℤ y) ≡ 0). record { low = omega (arith, add_parts x y); high = omega arith })
    (sign (x +ℤ y))

upto_mul : (k n : ℕ) (x : ℤ) → Upto n x → Upto (k * n) (pos k *ℤ x)
upto_mul k n x a =
    record { low = omega (arith, mul_parts k x, ap (λ (m : ℕ). k * m) a.low); high = omega (arith, mul_parts k x, mul-le-mul_left k a.high) }

upto_sub : (n : ℕ) (z m : ℤ) → Upto n z → np m ≡ 0 → pp m ≤ pp z → Upto n (z -ℤ m)
upto_sub n z m a b c =
    ⊎_elim (λ (s : np (z -ℤ m) ≡ 0). record { low = s; high = omega (arith, add_parts z (neg_ℤ m), neg_parts m) })
    (λ (s : pp (z -ℤ m) ≡ 0). record { low = omega (arith, add_parts z (neg_ℤ m), neg_parts m); high = omega arith })
    (sign (z -ℤ m))

pub box_normal : (n : ℕ) (t : IJK) → Box n t → Box n (normal t)
box_normal n t b =
    let jk = pick n (le_z t.j t.k) t.j t.k b.j b.k in
    let m = pick n (le_z t.i (lesser t.j t.k)) t.i (lesser t.j t.k) b.i jk in
    let f = lesser_parts t.i (lesser t.j t.k) in
    let g = lesser_parts t.j t.k in
    record {
      i = upto_sub n t.i (least t) b.i m.low (omega arith);
      j = upto_sub n t.j (least t) b.j m.low (omega arith);
      k = upto_sub n t.k (least t) b.k m.low (omega arith);
    }

row : (a b c n : ℕ) (x y z : ℤ) → a + b + c ≡ 4 → Upto n x → Upto n y → Upto n z → Upto (4 * n) (pos a *ℤ x +ℤ pos b *ℤ y +ℤ pos c *ℤ z)
row a b c n x y z e u v w =
    wider (a * n + b * n + c * n) (4 * n) (pos a *ℤ x +ℤ pos b *ℤ y +ℤ pos c *ℤ z) (omega (arith, ap (λ (m : ℕ). m * n) e))
    (upto_add (a * n + b * n) (c * n) (pos a *ℤ x +ℤ pos b *ℤ y) (pos c *ℤ z)
    (upto_add (a * n) (b * n) (pos a *ℤ x) (pos b *ℤ y) (upto_mul a n x u) (upto_mul b n y v))
    (upto_mul c n z w))

pub box_down : (o : Bool) (n : ℕ) (t : IJK) → Box n t → Box (4 * n) (down7 o t)
box_down true n t b =
    record {
      i = row 3 1 0 n t.i t.j t.k refl b.i b.j b.k;
      j = row 0 3 1 n t.i t.j t.k refl b.i b.j b.k;
      k = row 1 0 3 n t.i t.j t.k refl b.i b.j b.k;
    }
box_down false n t b =
    record {
      i = row 3 0 1 n t.i t.j t.k refl b.i b.j b.k;
      j = row 1 3 0 n t.i t.j t.k refl b.i b.j b.k;
      k = row 0 1 3 n t.i t.j t.k refl b.i b.j b.k;
    }

pub box_unit : (n : ℕ) (t : IJK) (d : ℕ) → d < 7 → Box n t → Box (n + 1) (plus t (unit d))
box_unit n t d h b =
    record {
      i = upto_add n 1 t.i (pos (d / 4)) b.i (record { low = refl; high = omega arith });
      j = upto_add n 1 t.j (pos (d / 2 % 2)) b.j (record { low = refl; high = omega arith });
      k = upto_add n 1 t.k (pos (d % 2)) b.k (record { low = refl; high = omega arith });
    }

-- (4 ^ r - 1) / 3
abbrev pub size : ℕ → ℕ
size zero = 0
size (suc r) = 4 * size r + 1

pub box_centre : (ds : List ℕ) → Digits ds → Box (size (length ds)) (centre ds)
box_centre [] h =
    record {
      i = record { low = refl; high = omega arith };
      j = record { low = refl; high = omega arith };
      k = record { low = refl; high = omega arith };
    }
box_centre (d ∷ ds) h =
    let o = odd (suc (length ds)) in
    let n = size (length ds) in
    let q = down7 o (centre ds) in
    box_normal (4 * n + 1) (plus q (unit d)) (box_unit (4 * n) q d h.0 (box_down o n (centre ds) (box_centre ds h.1)))

-- going into the fifteenth step, and after it
pub size_small : (r : ℕ) → r < 15 → size r ≤ 89478485
size_small = at_le 15 89478485 size tt

pub box_abs : (n : ℕ) (z : ℤ) → Upto n z → nat_abs z ≤ n
box_abs n z u = omega (arith, abs_parts z)

pub box_within : (n : ℕ) (t : IJK) → Box n t → Within n t
box_within n t b = record { i = box_abs n t.i b.i; j = box_abs n t.j b.j; k = box_abs n t.k b.k }

-- the sizes of IJ forms: of the normal form, after going up, and after going down again
pub normal_within : (n : ℕ) (t : IJK) → Broad n t → Within (n + n) (normal t)
normal_within n t b =
    let p = ij t in
    let m = lesser p.i (lesser p.j (pos 0)) in
    let h : nat_abs m ≤ n = omega (arith, b.i, b.j, abs_lesser p.i (lesser p.j (pos 0)), abs_lesser p.j (pos 0)) in
    subst (λ (s : IJK). Within (n + n) s) (of_ij_ij t)
    (record { i = omega (arith, b.i, abs_sub p.i m); j = omega (arith, b.j, abs_sub p.j m); k = omega (arith, abs_sub (pos 0) m) })

sevenfold_small : (o : Bool) (n : ℕ) (p : IJ) → nat_abs p.i ≤ n → nat_abs p.j ≤ n → (nat_abs (sevenfold o p).i ≤ 4 * n) × (nat_abs (sevenfold o p).j ≤ 4 * n)
sevenfold_small true n p a b =
    omega (arith, abs_sub (pos 3 *ℤ p.i) p.j, abs_mul 3 p.i, abs_add p.i (pos 2 *ℤ p.j), abs_mul 2 p.j)
sevenfold_small false n p a b =
    omega (arith, abs_sub (pos 3 *ℤ p.j) p.i, abs_mul 3 p.j, abs_add (pos 2 *ℤ p.i) p.j, abs_mul 2 p.i)

pub up_broad : (o : Bool) (n m : ℕ) (t : IJK) → 4 * n + 3 ≤ 7 * m → Broad n t → Broad m (up7 o t)
up_broad o n m t h b =
    let s = sevenfold_small o n (ij t) b.i b.j in
    let e = ij_of_ij (up_ij o (ij t)) in
    record {
      i = subst (λ (z : ℤ). nat_abs z ≤ m) (sym (ap (λ (q : IJ). q.i) e)) (omega (arith, abs_nearest (sevenfold o (ij t)).i));
      j = subst (λ (z : ℤ). nat_abs z ≤ m) (sym (ap (λ (q : IJ). q.j) e)) (omega (arith, abs_nearest (sevenfold o (ij t)).j));
    }

unit_little : (d : ℕ) → d < 7 → (nat_abs (ij (unit d)).i ≤ 1) × (nat_abs (ij (unit d)).j ≤ 1)
unit_little d h = (at_le 7 1 (λ (d : ℕ). nat_abs (ij (unit d)).i) tt d h, at_le 7 1 (λ (d : ℕ). nat_abs (ij (unit d)).j) tt d h)

less_little : (n : ℕ) (x y z : ℤ) → x ≡ y +ℤ z → nat_abs x ≤ n → nat_abs z ≤ 1 → nat_abs y ≤ n + 1
less_little n x y z e p q =
    let y= : y ≡ x -ℤ z = brought' in
    omega (arith, ap nat_abs y=, abs_sub x z)
  where
    brought' : y ≡ x -ℤ z
    brought' = let h = simp diffs at (rw (← whole x, ← whole y, ← whole z) at e) in rw (← whole x, ← whole y, ← whole z) (simp diffs (omega arith))

pub under_broad : (o : Bool) (n : ℕ) (t : IJK) → Broad n t → Broad (n + 1) (down7 o (up7 o t))
under_broad o n t b =
    let w = some_way o t in
    let u = unit w.0 in
    let q = down7 o (up7 o t) in
    let e = same_ij t (plus q u) w.2 ∙ ij_plus q u in
    let l = unit_little w.0 w.1 in
    record {
      i = less_little n (ij t).i (ij q).i (ij u).i (ap (λ (p : IJ). p.i) e) b.i l.0;
      j = less_little n (ij t).j (ij q).j (ij u).j (ap (λ (p : IJ). p.j) e) b.j l.1;
    }
