-- The three images have one shape: a-fold the triple, and the triple with its components moved by one place. Assumes nothing.
use mathlib.Core.Path.{◌≡◌}
use mathlib.Core.Bool.{Bool, true, false, not}
use native.Mathlib.Omega.{arith}
use Prim.Native.Nat.{ℕ}
use lib.IntN.{ℤ, pos, ◌+ℤ◌, ◌*ℤ◌}
use Rattle.plane.specs.Directions.{triple, vec}
use Rattle.plane.specs.Points.{image, down7, down3, turned}
use Rattle.plane.specs.Inside.{weighed, beside}
use Rattle.plane.specs.declared.ijk.IJK.{IJK}
use Rattle.plane.proofs.Whole.{whole, diffs}
use Rattle.plane.proofs.Pairs.{triple_path}

-- a row, by the places of a, 1 and 0
module _ (a : ℕ) (i j k : ℤ) where
  row_a10 : pos a *ℤ i +ℤ j ≡ pos a *ℤ i +ℤ pos 1 *ℤ j +ℤ pos 0 *ℤ k
  row_a10 = rw (← whole i, ← whole j, ← whole k) (simp diffs (omega arith))

  row_0a1 : pos a *ℤ j +ℤ k ≡ pos 0 *ℤ i +ℤ pos a *ℤ j +ℤ pos 1 *ℤ k
  row_0a1 = rw (← whole i, ← whole j, ← whole k) (simp diffs (omega arith))

  row_10a : pos a *ℤ k +ℤ i ≡ pos 1 *ℤ i +ℤ pos 0 *ℤ j +ℤ pos a *ℤ k
  row_10a = rw (← whole i, ← whole j, ← whole k) (simp diffs (omega arith))

  row_a01 : pos a *ℤ i +ℤ k ≡ pos a *ℤ i +ℤ pos 0 *ℤ j +ℤ pos 1 *ℤ k
  row_a01 = rw (← whole i, ← whole j, ← whole k) (simp diffs (omega arith))

  row_1a0 : pos a *ℤ j +ℤ i ≡ pos 1 *ℤ i +ℤ pos a *ℤ j +ℤ pos 0 *ℤ k
  row_1a0 = rw (← whole i, ← whole j, ← whole k) (simp diffs (omega arith))

  row_01a : pos a *ℤ k +ℤ j ≡ pos 0 *ℤ i +ℤ pos 1 *ℤ j +ℤ pos a *ℤ k
  row_01a = rw (← whole i, ← whole j, ← whole k) (simp diffs (omega arith))

next : (a : ℕ) (t : IJK) → weighed a t (beside true t) ≡ image (vec a 0 1) (vec 1 a 0) (vec 0 1 a) t
next a t = triple_path _ _ _ _ _ _ (row_a10 a t.i t.j t.k) (row_0a1 a t.i t.j t.k) (row_10a a t.i t.j t.k)

before : (a : ℕ) (t : IJK) → weighed a t (beside false t) ≡ image (vec a 1 0) (vec 0 a 1) (vec 1 0 a) t
before a t = triple_path _ _ _ _ _ _ (row_a01 a t.i t.j t.k) (row_1a0 a t.i t.j t.k) (row_01a a t.i t.j t.k)

pub down7_shape : (o : Bool) (t : IJK) → weighed 3 t (beside o t) ≡ down7 o t
down7_shape true t = next 3 t
down7_shape false t = before 3 t

pub down3_shape : (o : Bool) (t : IJK) → weighed 2 t (beside o t) ≡ down3 o t
down3_shape true t = next 2 t
down3_shape false t = before 2 t

pub turned_shape : (o : Bool) (t : IJK) → weighed 1 t (beside (not o) t) ≡ turned o t
turned_shape true t = before 1 t
turned_shape false t = next 1 t

-- once a point is the point
single : (x : ℤ) → pos 1 *ℤ x ≡ x
single x = rw (← whole x) (simp diffs (omega arith))

pub once : (t : IJK) → triple (pos 1 *ℤ t.i) (pos 1 *ℤ t.j) (pos 1 *ℤ t.k) ≡ t
once t = triple_path _ _ _ _ _ _ (single t.i) (single t.j) (single t.k)
