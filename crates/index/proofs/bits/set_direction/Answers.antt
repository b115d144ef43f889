-- By the laws of `Write`.
use Rattle.std.proofs.Common.{◌≡◌, ℕ, ◌+◌, ◌-◌, ◌*◌, ◌^◌, ◌<◌, ◌≤◌, subst, mul-le-mul, arith}
use native.Mathlib.Nat.{pow-le-pow_right}
use Rattle.index.specs.Layout.{digit}
use Rattle.index.specs.Written.{Written}
use Rattle.index.proofs.Write.{set_digit, set_written, set_room, set_fits}
use Rattle.index.proofs.bits.set_direction.Goals as goal

-- in the words of the two calls
record Parts (n r d e u o : ℕ) : Type 0 where
  room : o * u ≤ n
  new : e * u < 2 ^ 64
  sum : n - o * u + e * u < 2 ^ 64
  is : Written n r d (n - o * u + e * u)

parts : (n r d e u o : ℕ) → 1 ≤ r → r ≤ 15 → d ≤ 6 → n < 2 ^ 64 → e ≡ d → u ≡ 8 ^ (15 - r) → o ≡ digit n r → Parts n r d e u o
parts n r d e u o l h hd f ed eu eo =
    let whole : set_digit n r d ≡ n - o * u + e * u = rw (ed, eu, eo) in
    let w : u ≤ 8 ^ 14 = rw eu (pow-le-pow_right (omega arith) {i = 15 - r} {j = 14} (omega arith)) in
    record {
      room = rw (eu, eo) (set_room n r d (omega arith));
      new = rw ed (omega (arith, mul-le-mul hd w));
      sum = rw (← whole) (set_fits n r d (omega arith) l h f);
      is = subst (Written n r d) whole (set_written n r d (omega arith) l h);
    }

known : (c : goal.After-get_direction-old) → Parts c.args.n c.args.r c.args.d c.number-new.result c.place-u.result c.get_direction-old.result
known c = parts _ _ _ _ _ _ c.requires c.place-u.ensures.bound c.number-new.ensures.bound c.ranges.n.fits c.number-new.ensures.value c.place-u.ensures.value c.get_direction-old.ensures

pub overflow_mul-result : goal.overflow_mul-result
overflow_mul-result c =
    let e = (known c).room in
    omega arith

pub overflow_sub-result : goal.overflow_sub-result
overflow_sub-result c = (known c).room

pub overflow_mul-result-2 : goal.overflow_mul-result-2
overflow_mul-result-2 c = record { fits = (known c).new }

pub overflow_add-result : goal.overflow_add-result
overflow_add-result c = record { fits = (known c).sum }

pub returns : goal.returns
returns c = (known c).is
