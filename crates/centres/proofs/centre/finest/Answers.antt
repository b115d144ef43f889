-- A digit is always left.
use Rattle.std.proofs.Common.{◌≡◌, ℕ, Option, Some, ◌∙◌, refl}
use Rattle.std.specs.Option.{IsSome}
use Rattle.plane.specs.Points.{normal, minus, down7, up7}
use Rattle.plane.specs.Ranges.{Within, Broad}
use Rattle.plane.specs.declared.ijk.IJK.{IJK}
use Rattle.centres.proofs.Reading.{Sized, up_small, under_small, point_small, left_small, left_digit}
use Rattle.centres.proofs.centre.finest.Goals as goal
use Rattle.centres.proofs.centre.finest.Goals.{After-minus-rest, After-direction_of}

some_is : {x : Option ℕ} {d : ℕ} → x ≡ Some d → IsSome x
some_is e = rw e refl

same_some : {x : Option ℕ} {d e : ℕ} → x ≡ Some d → x ≡ Some e → d ≡ e
same_some p q = cc

sized : {A : Type 0} {q : IJK} → Broad 200000000 q × Within 400000000 q × A → Sized q
sized w = record { broad = w.0; within = w.1 }

-- what is left
rest : (c : After-minus-rest) → c.minus-rest.result ≡ minus c.args.q (normal (down7 c.args.o (up7 c.args.o c.args.q)))
rest c = rw (c.minus-rest.ensures, c.down_aperture7.ensures, c.requires.2) refl

-- its digit
some : (c : After-direction_of) → c.direction_of.result ≡ Some (left_digit c.args.o c.args.q).0
some c = c.direction_of.ensures ∙ rw (rest c.before) (left_digit c.args.o c.args.q).3

pub down_aperture7-requires : goal.down_aperture7-requires
down_aperture7-requires c = rw c.requires.2 (up_small c.args.o c.args.q (sized c.requires))

pub minus-rest-requires : goal.minus-rest-requires
minus-rest-requires c = (point_small c.args.o c.args.q (sized c.requires), rw (c.down_aperture7.ensures, c.requires.2) (under_small c.args.o c.args.q (sized c.requires)))

pub direction_of-requires : goal.direction_of-requires
direction_of-requires c = rw (rest (goal.at.direction_of-requires c).After-minus-rest) (left_small c.args.o c.args.q (sized c.requires))

pub unwrap-requires : goal.unwrap-requires
unwrap-requires c = some_is (some (goal.at.unwrap-requires c).After-direction_of)

pub returns : goal.returns
returns c = rw (same_some c.unwrap.ensures (some (goal.at.returns c).After-direction_of), c.requires.2) (left_digit c.args.o c.args.q).2
