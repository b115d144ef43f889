-- Document 01, "Signed coordinates (ijk.rs)": a point is a triple of whole numbers; a sense of turning is `true` for counter-clockwise.
use Rattle.std.specs.Prelude.{Option, Some, None, ◌≡◌, Bool, true, false, ◌&&◌, cond, ℕ, suc, ◌/◌, ◌+◌, ℤ, pos, negsuc, neg_ℤ, nat_abs, ◌+ℤ◌, ◌-ℤ◌, ◌*ℤ◌, eqb}
use Rattle.std.specs.Int.Signed.{le_z}
use Rattle.plane.specs.Directions.{triple, vec}
use Rattle.plane.specs.declared.ijk.IJK.{IJK}
use Rattle.plane.specs.declared.ijk.IJ.{IJ}

-- normalising subtracts the least component from all three
abbrev pub lesser : ℤ → ℤ → ℤ
lesser x y = cond (le_z x y) x y

abbrev pub least : IJK → ℤ
least t = lesser t.i (lesser t.j t.k)

abbrev pub normal : IJK → IJK
normal t = triple (t.i -ℤ least t) (t.j -ℤ least t) (t.k -ℤ least t)

-- two triples mean one point when their normal forms are equal: as a proposition, and as a test
abbrev pub Same : IJK → IJK → Type 0
Same s t = normal s ≡ normal t

abbrev pub equal : ℤ → ℤ → Bool
equal (pos a) (pos b) = eqb a b
equal (pos a) (negsuc b) = false
equal (negsuc a) (pos b) = false
equal (negsuc a) (negsuc b) = eqb a b

abbrev pub equals : IJK → IJK → Bool
equals s t = equal s.i t.i && (equal s.j t.j && equal s.k t.k)

abbrev pub same : IJK → IJK → Bool
same s t = equals (normal s) (normal t)

-- distance is the largest component of the normalised difference
abbrev pub greater : ℤ → ℤ → ℤ
greater x y = cond (le_z x y) y x

abbrev pub largest : IJK → ℤ
largest t = greater t.i (greater t.j t.k)

abbrev pub minus : IJK → IJK → IJK
minus s t = triple (s.i -ℤ t.i) (s.j -ℤ t.j) (s.k -ℤ t.k)

abbrev pub distance : IJK → IJK → ℤ
distance s t = largest (normal (minus s t))

-- IJ form is (i - k, j - k); an IJ pair read back is the point (i, j, 0)
abbrev pub pair : ℤ → ℤ → IJ
pair i j = record { i = i; j = j }

abbrev pub ij : IJK → IJ
ij t = pair (t.i -ℤ t.k) (t.j -ℤ t.k)

abbrev pub of_ij : IJ → IJK
of_ij p = normal (triple p.i p.j (pos 0))

-- unit images, given for i; j; k
abbrev pub plus : IJK → IJK → IJK
plus s t = triple (s.i +ℤ t.i) (s.j +ℤ t.j) (s.k +ℤ t.k)

abbrev pub times : ℤ → IJK → IJK
times n u = triple (u.i *ℤ n) (u.j *ℤ n) (u.k *ℤ n)

abbrev pub image : IJK → IJK → IJK → IJK → IJK
image u v w t = plus (plus (times t.i u) (times t.j v)) (times t.k w)

abbrev pub down7 : Bool → IJK → IJK
down7 true = image (vec 3 0 1) (vec 1 3 0) (vec 0 1 3)
down7 false = image (vec 3 1 0) (vec 0 3 1) (vec 1 0 3)

abbrev pub down3 : Bool → IJK → IJK
down3 true = image (vec 2 0 1) (vec 1 2 0) (vec 0 1 2)
down3 false = image (vec 2 1 0) (vec 0 2 1) (vec 1 0 2)

abbrev pub turned : Bool → IJK → IJK
turned true = image (vec 1 1 0) (vec 0 1 1) (vec 1 0 1)
turned false = image (vec 1 0 1) (vec 1 1 0) (vec 0 1 1)

-- up by aperture 7, from IJ: these, each divided by 7 and taken to the nearest whole number, negative ones too
abbrev pub sevenfold : Bool → IJ → IJ
sevenfold true p = pair (pos 3 *ℤ p.i -ℤ p.j) (p.i +ℤ pos 2 *ℤ p.j)
sevenfold false p = pair (pos 2 *ℤ p.i +ℤ p.j) (pos 3 *ℤ p.j -ℤ p.i)

abbrev pub nearest : ℤ → ℤ
nearest (pos n) = pos ((n + 3) / 7)
nearest (negsuc n) = neg_ℤ (pos ((suc n + 3) / 7))

abbrev pub up7 : Bool → IJK → IJK
up7 o t = of_ij (pair (nearest (sevenfold o (ij t)).i) (nearest (sevenfold o (ij t)).j))

-- a normalised point with no component above 1 is a unit vector or zero, and its direction is 4i + 2j + k; any other is refusal 16
abbrev pub value : IJK → ℕ
value t = nat_abs (pos 4 *ℤ t.i +ℤ (pos 2 *ℤ t.j +ℤ t.k))

abbrev pub direction_of : IJK → Option ℕ
direction_of t = cond (le_z (largest (normal t)) (pos 1)) (Some (value (normal t))) None
