-- Document 01, 'Counts and listings': the ancestor at a resolution cuts the digits and fills with 7.
use Rattle.std.specs.Prelude.{ℕ}
use Rattle.index.specs.Layout.{base_of}
use Rattle.index.specs.View.{used, pack}

unfoldable pub ancestor_of : ℕ → ℕ → ℕ
ancestor_of n t = pack (base_of n) (used n t)
