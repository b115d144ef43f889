-- The least component is no larger than any, so that each difference fits and is read back as it is.
use Rattle.std.proofs.Common.{◌≡◌, ◌≤◌, arith, ap, ◌∙◌}
use lib.IntN.{ℤ, nat_abs, ◌-ℤ◌}
use mir.Syntax.{w32}
use mir.Val.{SFits}
use mir.Facts.{to_z-of_z}
use Rattle.std.specs.Int.{int_min}
use Rattle.plane.specs.Points.{lesser, normal}
use Rattle.plane.specs.Directions.{triple}
use Rattle.plane.specs.declared.ijk.IJK.{IJK}
use Rattle.plane.proofs.Bounds.{fits, rd, abs_sub, abs_lesser, min_lesser}
use Rattle.plane.proofs.ijk.normalize.Goals as goal

-- what is known once the least component is there
record Known (i j k m : ℤ) : Type 0 where
  fi : SFits w32 i
  fj : SFits w32 j
  fk : SFits w32 k
  fm : SFits w32 m
  low : m ≡ lesser i (lesser j k)
  di : SFits w32 (i -ℤ m)
  dj : SFits w32 (j -ℤ m)
  dk : SFits w32 (k -ℤ m)

known : (i j k n m : ℤ) → nat_abs i ≤ 1000000000 → nat_abs j ≤ 1000000000 → nat_abs k ≤ 1000000000 → n ≡ int_min (rd j) (rd k) → m ≡ int_min (rd i) (rd n) → Known i j k m
known i j k n m hi hj hk en em =
    let fi = fits i (omega arith) in
    let fj = fits j (omega arith) in
    let fk = fits k (omega arith) in
    let n= : n ≡ lesser j k = simp to_z-of_z at (en ∙ min_lesser (rd j) (rd k)) in
    let fn : SFits w32 n = fits n (omega (arith, ap nat_abs n=, abs_lesser j k)) in
    let m= : m ≡ lesser i (lesser j k) = (simp to_z-of_z at (em ∙ min_lesser (rd i) (rd n))) ∙ ap (lesser i) n= in
    let hm : nat_abs m ≤ 1000000000 = omega (arith, ap nat_abs m=, abs_lesser i (lesser j k), abs_lesser j k) in
    record {
      fi = fi;
      fj = fj;
      fk = fk;
      fm = fits m (omega arith);
      low = m=;
      di = fits (i -ℤ m) (omega (arith, abs_sub i m));
      dj = fits (j -ℤ m) (omega (arith, abs_sub j m));
      dk = fits (k -ℤ m) (omega (arith, abs_sub k m));
    }

read : (p : IJK) (m : ℤ) → Known p.i p.j p.k m → triple (rd (rd p.i -ℤ rd m)) (rd (rd p.j -ℤ rd m)) (rd (rd p.k -ℤ rd m)) ≡ normal p
read p m h =
    simp (to_z-of_z, h.fi, h.fj, h.fk, h.fm, h.di, h.dj, h.dk) (ap (λ (m : ℤ). triple (p.i -ℤ m) (p.j -ℤ m) (p.k -ℤ m)) h.low)

pub returns : goal.returns
returns c =
    let p = c.args.p in
    read p c.min-m.result
    (known p.i p.j p.k c.min.result c.min-m.result c.requires.i c.requires.j c.requires.k c.min.ensures.value c.min-m.ensures.value)
