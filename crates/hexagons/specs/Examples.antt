-- Document 01, 'Table of proved examples'.
use Rattle.std.specs.Prelude.{◌≡◌, List, [], ◌∷◌, ℕ, take}
use Rattle.index.specs.Refusals.{Outcome, answered, refused}
use Rattle.descent.specs.Positions.{listing}
use Rattle.plane.specs.Directions.{vec}
use Rattle.plane.specs.declared.ijk.IJK.{IJK}
use Rattle.grid.specs.Steps.{inside, leaves}
use Rattle.cell_entries.specs.Cells.{valid_of, count_of, list_of}
use Rattle.step_entries.specs.Steps.{ReadsBack, step_of}

-- a request's outcome, and what the document says it is; of reading back, what the document says its outcome is
infix 20 ◌gives◌
pub data Row : Type 1 where
  ◌gives◌ : {A : Type 0} → Outcome A → Outcome A → Row
  read_back : ℕ → IJK → Outcome ℕ → Row

-- the elements that a listing writes into a buffer of so many
abbrev written : Outcome ℕ → List ℕ → Outcome (List ℕ)
written (answered k) l = answered (take k l)
written (refused k) l = refused k

abbrev listed : ℕ → ℕ → ℕ → Outcome (List ℕ)
listed n t room = written (list_of n t room) (listing n t)

abbrev pub table : List Row
table =
    (valid_of 0 gives refused 2)
    ∷ (valid_of 0x080f3fffffffffff gives answered tt)
    ∷ (valid_of 0x080f5fffffffffff gives refused 4)
    ∷ (valid_of 0x08101fffffffffff gives refused 5)
    ∷ (valid_of 0x08001ffffffffffe gives refused 6)
    ∷ (valid_of 0x081087ffffffffff gives refused 7)
    ∷ (count_of 0x08009fffffffffff 0 gives answered 1)
    ∷ (count_of 0x08009fffffffffff 1 gives answered 6)
    ∷ (count_of 0x08009fffffffffff 2 gives answered 41)
    ∷ (count_of 0x08009fffffffffff 15 gives answered 3956301258286)
    ∷ (listed 0x08009fffffffffff 1 6 gives
    answered (0x081083ffffffffff ∷ 0x08108bffffffffff ∷ 0x08108fffffffffff ∷ 0x081093ffffffffff ∷ 0x081097ffffffffff ∷ 0x08109bffffffffff ∷ []))
    ∷ (listed 0x08009fffffffffff 1 5 gives refused 10)
    ∷ (step_of 0x08108fffffffffff 5 gives answered (inside 0x081097ffffffffff 1))
    ∷ (step_of 0x081097ffffffffff 3 gives answered (inside 0x08108fffffffffff 5))
    ∷ (step_of 0x081083ffffffffff 1 gives refused 17)
    ∷ (step_of 0x081013ffffffffff 4 gives answered (leaves 4))
    ∷ (step_of 0x081013ffffffffff 3 gives answered (inside 0x081003ffffffffff 0))
    ∷ read_back 1 (vec 0 0 2) (refused 15)
    ∷ []

-- each row of the table is true
abbrev pub Holds : List Row → Type 0
Holds [] = Unit {0}
Holds ((request gives outcome) ∷ rows) = (request ≡ outcome) × Holds rows
Holds (read_back length point outcome ∷ rows) = ReadsBack length point outcome × Holds rows
