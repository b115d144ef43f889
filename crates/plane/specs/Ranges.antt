-- Document 01, refusal 14: a coordinate is outside -100,000,000 to 100,000,000; and sizes of points, which contracts ask for.
use Rattle.std.specs.Prelude.{Bool, ◌&&◌, ℕ, ◌≤◌, leb, ℤ, nat_abs, ◌-ℤ◌}
use Rattle.plane.specs.declared.ijk.IJK.{IJK}

abbrev pub in_range : ℤ → Bool
in_range n = leb (nat_abs n) 100000000

abbrev pub point_in_range : IJK → Bool
point_in_range t = in_range t.i && (in_range t.j && in_range t.k)

-- no component is more than n in size
pub record Within (n : ℕ) (t : IJK) : Type 0 where
  pub i : nat_abs t.i ≤ n
  pub j : nat_abs t.j ≤ n
  pub k : nat_abs t.k ≤ n

-- neither number of the IJ form is
pub record Broad (n : ℕ) (t : IJK) : Type 0 where
  pub i : nat_abs (t.i -ℤ t.k) ≤ n
  pub j : nat_abs (t.j -ℤ t.k) ≤ n
