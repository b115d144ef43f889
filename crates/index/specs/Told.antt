-- Document 01's number and value of each answer.
use Rattle.std.specs.Prelude.{◌≡◌, if◌then◌else◌, ℕ, Result, Ok, Err, nat_lt}
use Rattle.index.specs.Refusals.{Outcome, answered, refused}
use Rattle.index.specs.declared.refusal.Refusal.{Refusal}
use Rattle.index.specs.declared.refusal.Refusal.TheVariants as refusal

-- the document's table
abbrev pub number : Refusal → ℕ
number refusal.TopBit = 1
number refusal.Mode = 2
number refusal.Reserved = 3
number refusal.BaseCell = 4
number refusal.Digit = 5
number refusal.Unused = 6
number refusal.Deleted = 7
number refusal.Resolution = 8
number refusal.Order = 9
number refusal.NoRoom = 10
number refusal.Position = 11
number refusal.NotUnder = 12
number refusal.Direction = 13
number refusal.Range = 14
number refusal.NoString = 15
number refusal.NotUnit = 16
number refusal.DeletedWay = 17

abbrev pub told : {A : Type 0} → Result A Refusal → Outcome A
told (Ok a) = answered a
told (Err x) = refused (number x)

-- refusal 8: a given resolution or length is above 15
abbrev pub TakenAsResolution : ℕ → Result ℕ Refusal → Type 0
TakenAsResolution r a = told a ≡ (if nat_lt 15 r then refused 8 else answered r)
