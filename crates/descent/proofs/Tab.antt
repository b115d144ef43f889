-- Laws of `tab`, for a loop that writes a list's first elements one after the other and leaves the others. Assumes nothing.
use mathlib.Core.Path.{◌≡◌, refl, sym}
use mathlib.Core.List.{List, [], ◌∷◌, ◌++◌, append_assoc}
use Prim.Native.Nat.{ℕ, zero, suc, ◌+◌, ◌≤◌, ◌<◌}
use native.Mathlib.Numerals.{add-one}
use native.Mathlib.Omega.{arith}
use lib.ListN.{length, drop, set, length-append, length-drop}
use lib.Seq.{drop-cons, set_at}
use Rattle.descent.specs.Positions.{tab}

pub length_tab : (f : ℕ → ℕ) (k : ℕ) → length (tab f k) ≡ k
unfolding tab
length_tab f zero = refl
length_tab f (suc k) = rw (length-append, length_tab f k) (add-one k)

pub tab_none : (f : ℕ → ℕ) (b : List ℕ) → b ≡ tab f 0 ++ drop 0 b
unfolding tab
tab_none f b = refl

pub tab_length : (f : ℕ → ℕ) (b : List ℕ) (i : ℕ) → i ≤ length b → length (tab f i ++ drop i b) ≡ length b
tab_length f b i h = rw (length-append, length_tab f i, length-drop i b) (omega arith)

pub tab_more : (f : ℕ → ℕ) (b : List ℕ) (i v : ℕ) → i < length b → v ≡ f i → set (tab f i ++ drop i b) i v ≡ tab f (i + 1) ++ drop (i + 1) b
unfolding tab
tab_more f b i v h e =
    rw (add-one, drop-cons b i 0 h, set_at (tab f i) _ _ v i (length_tab f i), e)
    (sym (append_assoc (tab f i) (f i ∷ []) (drop (suc i) b)))
