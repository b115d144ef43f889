-- What the exports hand out for an outcome: the refusal's number or 0, 16 bits that are 0, and the values, 0 where it is refused.
use Rattle.std.specs.Prelude.{Bool, cond, ℕ, pos}
use Rattle.index.specs.Refusals.{Outcome, answered, refused}
use Rattle.plane.specs.declared.ijk.IJK.{IJK}
use Rattle.plane.specs.declared.ijk.IJ.{IJ}
use Rattle.grid.specs.Steps.{Answer, inside, leaves}
use Rattle.outward.specs.declared.answers.RgNumber.{RgNumber}
use Rattle.outward.specs.declared.answers.RgPoint.{RgPoint}
use Rattle.outward.specs.declared.answers.RgPair.{RgPair}
use Rattle.outward.specs.declared.answers.RgWalked.{RgWalked}
use Rattle.outward.specs.declared.answers.RgStepped.{RgStepped}

abbrev pub number_out : Outcome ℕ → RgNumber
number_out (answered n) = record { refusal = 0; zero = 0; value = n }
number_out (refused k) = record { refusal = k; zero = 0; value = 0 }

-- 1 for yes
abbrev pub truth_out : Outcome Bool → RgNumber
truth_out (answered b) = record { refusal = 0; zero = 0; value = cond b 1 0 }
truth_out (refused k) = record { refusal = k; zero = 0; value = 0 }

abbrev pub point_out : Outcome IJK → RgPoint
point_out (answered t) = record { refusal = 0; zero = 0; i = t.i; j = t.j; k = t.k }
point_out (refused k) = record { refusal = k; zero = 0; i = pos 0; j = pos 0; k = pos 0 }

abbrev pub pair_out : Outcome IJ → RgPair
pair_out (answered p) = record { refusal = 0; zero = 0; i = p.i; j = p.j }
pair_out (refused k) = record { refusal = k; zero = 0; i = pos 0; j = pos 0 }

abbrev pub walked_out : Outcome (ℕ × ℕ) → RgWalked
walked_out (answered w) = record { refusal = 0; zero = 0; carry = w.1; number = w.0 }
walked_out (refused k) = record { refusal = k; zero = 0; carry = 0; number = 0 }

-- kind 0: inside; kind 1: leaves, and in the turn number's place stands the direction
abbrev pub stepped_out : Outcome Answer → RgStepped
stepped_out (answered (inside n t)) = record { refusal = 0; zero = 0; kind = 0; turn = t; cell = n }
stepped_out (answered (leaves d)) = record { refusal = 0; zero = 0; kind = 1; turn = d; cell = 0 }
stepped_out (refused k) = record { refusal = k; zero = 0; kind = 0; turn = 0; cell = 0 }
