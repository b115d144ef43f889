-- What the contracts of functions inside this crate and images cite, no part of document 01: an answer with its size, and the one shape of the three images.
use Rattle.std.specs.Prelude.{◌≡◌, Bool, true, false, ℕ, ◌+◌, ◌*◌, ◌≤◌, ℤ, pos, nat_abs, ◌+ℤ◌, ◌*ℤ◌}
use Rattle.std.specs.Int.{w32}
use Rattle.std.proofs.Common.{SFits}
use Rattle.plane.specs.Directions.{triple}
use Rattle.plane.specs.declared.ijk.IJK.{IJK}

-- an i32 holds z, which is at most n in size
pub record Is (z : ℤ) (n : ℕ) (r : ℤ) : Type 0 where
  pub is : r ≡ z
  pub small : nat_abs r ≤ n
  pub fits : SFits w32 r

-- a-fold the one triple and the other
abbrev pub weighed : ℕ → IJK → IJK → IJK
weighed a s t = triple (pos a *ℤ s.i +ℤ t.i) (pos a *ℤ s.j +ℤ t.j) (pos a *ℤ s.k +ℤ t.k)

pub record Weighs (n a : ℕ) (s t : IJK) : Type 0 where
  pub i : a * nat_abs s.i + nat_abs t.i ≤ n
  pub j : a * nat_abs s.j + nat_abs t.j ≤ n
  pub k : a * nat_abs s.k + nat_abs t.k ≤ n

-- each component's place taken by the next one, or by the one before
abbrev pub beside : Bool → IJK → IJK
beside true t = triple t.j t.k t.i
beside false t = triple t.k t.i t.j
