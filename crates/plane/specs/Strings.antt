-- Document 01, "Signed coordinates (ijk.rs)", centres: a digit string is a list of digits 0 to 6, the finest first.
use Rattle.std.specs.Prelude.{Bool, false, not, List, [], ◌∷◌, ℕ, zero, suc, ◌<◌, length}
use Rattle.plane.specs.Directions.{vec, unit}
use Rattle.plane.specs.Points.{normal, plus, down7}
use Rattle.plane.specs.declared.ijk.IJK.{IJK}

abbrev pub Digits : List ℕ → Type 0
Digits [] = Unit {0}
Digits (d ∷ ds) = (d < 7) × Digits ds

abbrev pub odd : ℕ → Bool
odd zero = false
odd (suc r) = not (odd r)

-- start at 0; for r = 1 upward go down by aperture 7, counter-clockwise for odd r and clockwise for even r, then add the digit's unit vector; normalise
abbrev pub centre : List ℕ → IJK
centre [] = vec 0 0 0
centre (d ∷ ds) = normal (plus (down7 (odd (suc (length ds))) (centre ds)) (unit d))

-- the r-fold down image of a carry direction c, by the same alternation
abbrev pub carried : ℕ → ℕ → IJK
carried zero c = unit c
carried (suc r) c = down7 (odd (suc r)) (carried r c)

-- a carry direction c with a string stands for the centre plus the down image of c
abbrev pub joint : List ℕ → ℕ → IJK
joint ds c = plus (centre ds) (carried (length ds) c)
