-- What the contracts of functions inside the crate cite, no part of document 01: a listing by runs and by copies of blocks.
use Rattle.std.specs.Prelude.{ℕ, zero, suc, ◌+◌, ◌-◌, ◌*◌, ◌%◌, ◌^◌, Bool, List, slice_index, slice_set}
use Rattle.index.specs.View.{octal}
use Rattle.descent.specs.Positions.{below}

-- the number at position p below a first child b, m resolutions down, u in the place of the finest digit
unfoldable pub number_at : ℕ → ℕ → Bool → ℕ → ℕ → ℕ
number_at b u t m p = b + u * octal (below t m p)

-- the k elements from a on, one after the other, each the one d before it and s
unfoldable pub copies : List ℕ → ℕ → ℕ → ℕ → ℕ → List ℕ
copies l a zero d s = l
copies l a (suc k) d s = slice_set (copies l a k d s) (a + k) ((slice_index (copies l a k d s) (a + k - d) + s) % 2 ^ 64)

-- the k elements from i on: q, q + s, ..
unfoldable pub ramp : List ℕ → ℕ → ℕ → ℕ → ℕ → List ℕ
ramp l i q s zero = l
ramp l i q s (suc k) = slice_set (ramp l i q s k) (i + k) (q + k * s)

-- from element i on, k runs of seven; the first of each is 8 s above that of the run before
unfoldable pub stairs : List ℕ → ℕ → ℕ → ℕ → ℕ → List ℕ
stairs l i q s zero = l
stairs l i q s (suc k) = ramp (stairs l i q s k) (i + 7 * k) (q + k * (8 * s)) s 7
