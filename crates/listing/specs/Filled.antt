-- What the contracts of functions inside the crate cite, no part of document 01: a buffer that is written from its beginning.
use Rattle.std.specs.Prelude.{◌≡◌, ℕ, Bool, List, ◌++◌, drop}
use Rattle.descent.specs.Positions.{tab}
use Rattle.listing.specs.Copies.{number_at}
use Rattle.listing.specs.declared.blocks.Numbers.{Numbers}

-- the number at position p below a pentagon, or below another cell
abbrev pub nth_of : Numbers → Bool → ℕ → ℕ
nth_of n t p = number_at n.first n.unit t n.levels p

-- l is the buffer b with the first k numbers in it
abbrev pub Filled : Numbers → Bool → ℕ → List ℕ → List ℕ → Type 0
Filled n t k b l = l ≡ tab (nth_of n t) k ++ drop k b
