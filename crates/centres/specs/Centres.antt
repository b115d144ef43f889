-- Document 01, 'Signed coordinates': the centre of a cell, and reading a centre back.
use Rattle.std.specs.Prelude.{◌≡◌, List, ℕ, Option, Some, None, length}
use Rattle.plane.specs.Points.{Same}
use Rattle.plane.specs.Strings.{Digits, centre}
use Rattle.plane.specs.declared.ijk.IJK.{IJK}
use Rattle.index.specs.Layout.{res_of}
use Rattle.index.specs.View.{used, pack}
use Rattle.index.specs.Refusals.{Outcome, answered, refused}

-- it takes a cell and reads its used digits only, whatever the base cell
unfoldable pub centre_of : ℕ → IJK
centre_of n = centre (used n (res_of n))

-- a digit string of a length, with a centre
pub record StringOf (r : ℕ) (p : IJK) (ds : List ℕ) : Type 0 where
  pub long : length ds ≡ r
  pub digits : Digits ds
  pub point : Same (centre ds) p

-- reading back takes a length and a point and answers the string as the cell of base cell 0 with that resolution and those digits;
-- refusal 15: no digit string of that length has that centre
abbrev pub Reads : ℕ → IJK → Outcome ℕ → Type 0
Reads r p (answered n) = (ds : List ℕ) × StringOf r p ds × (n ≡ pack 0 ds)
Reads r p (refused k) = (k ≡ 15) × ((ds : List ℕ) → StringOf r p ds → ⊥)

-- the document's number and value of each answer
abbrev pub read_told : Option ℕ → Outcome ℕ
read_told (Some n) = answered n
read_told None = refused 15
