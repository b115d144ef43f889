-- Document 01, "Directions and turns": a direction is a number 0 to 6, 0 Center, 1 K, 2 J, 3 JK, 4 I, 5 IK, 6 IJ; a turn is counter-clockwise where its sense is `true`.
use Rattle.std.specs.Prelude.{Bool, true, false, cond, List, [], ◌∷◌, ℕ, zero, suc, ◌/◌, ◌%◌, eqb, ℤ, pos}
use Rattle.plane.specs.declared.ijk.IJK.{IJK}

abbrev pub triple : ℤ → ℤ → ℤ → IJK
triple i j k = record { i = i; j = j; k = k }

abbrev pub vec : ℕ → ℕ → ℕ → IJK
vec i j k = triple (pos i) (pos j) (pos k)

-- the unit vector, of which the direction is 4i + 2j + k
abbrev pub unit : ℕ → IJK
unit d = vec (d / 4) (d / 2 % 2) (d % 2)

-- what follows d in a list; d itself where it is not there
abbrev pub next : ℕ → List ℕ → ℕ
next d [] = d
next d (x ∷ []) = d
next d (x ∷ y ∷ l) = cond (eqb d x) y (next d (y ∷ l))

-- one turn counter-clockwise maps 1, 5, 4, 6, 2, 3 each to the next, 3 to 1; clockwise is the reverse; 0 stays
abbrev pub turn : Bool → ℕ → ℕ
turn true d = next d (1 ∷ 5 ∷ 4 ∷ 6 ∷ 2 ∷ 3 ∷ 1 ∷ [])
turn false d = next d (1 ∷ 3 ∷ 2 ∷ 6 ∷ 4 ∷ 5 ∷ 1 ∷ [])

abbrev pub turns : Bool → ℕ → ℕ → ℕ
turns o zero d = d
turns o (suc n) d = turn o (turns o n d)
