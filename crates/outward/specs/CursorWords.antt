-- The cursor in C: five numbers of 64 bits, the skip in two's complement. Each number is judged whole: what does not fit its field is refused.
use Rattle.std.specs.Prelude.{cond, ◌&&◌, List, [], ◌∷◌, ℕ, ◌-◌, ◌^◌, ltb, ℤ, pos, negsuc, get_or, Option, Some, None}
use Rattle.index.specs.Refusals.{Outcome, answered, refused}
use Rattle.children.specs.Cursors.{next_of}
use Rattle.children.specs.declared.children.Cursor.{Cursor}
use Rattle.children.specs.declared.children.Given.{Given}
use Rattle.cell_entries.specs.Cells.{given_told}

-- negsuc k is -1 - k
abbrev pub skip_word : ℤ → ℕ
skip_word (pos n) = n
skip_word (negsuc k) = 2 ^ 64 - 1 - k

abbrev pub words_of : Cursor → List ℕ
words_of c = c.own ∷ c.target ∷ c.number ∷ skip_word c.skip ∷ c.left ∷ []

-- the number from -2 ^ 31 to 2 ^ 31 - 1 that the word w holds
abbrev pub skip_in : ℕ → Option ℤ
skip_in w = cond (ltb w (2 ^ 31)) (Some (pos w)) (cond (ltb w (2 ^ 64 - 2 ^ 31)) None (Some (negsuc (2 ^ 64 - 1 - w))))

abbrev pub with_skip : ℕ → ℕ → ℕ → ℕ → Option ℤ → Option Cursor
with_skip own target number left None = None
with_skip own target number left (Some z) = Some (record { own = own; target = target; number = number; skip = z; left = left })

-- the cursor that five words hold
abbrev pub cursor_in : ℕ → ℕ → ℕ → ℕ → ℕ → Option Cursor
cursor_in own target number skip left =
    cond (ltb own (2 ^ 32) && ltb target (2 ^ 32)) (with_skip own target number left (skip_in skip)) None

abbrev pub cursor_of_words : List ℕ → Option Cursor
cursor_of_words ws = cursor_in (get_or ws 0 0) (get_or ws 1 0) (get_or ws 2 0) (get_or ws 3 0) (get_or ws 4 0)

-- a fresh cursor's words, or the words as they were
abbrev pub started_words : List ℕ → Outcome Cursor → List ℕ
started_words ws (answered c) = words_of c
started_words ws (refused k) = ws

-- the child, or 0 for Done: no cell has the number 0
abbrev pub or_zero : Outcome (Option ℕ) → Outcome ℕ
or_zero (answered (Some y)) = answered y
or_zero (answered None) = answered 0
or_zero (refused k) = refused k

abbrev pub given_number : Given → Outcome ℕ
given_number g = or_zero (given_told g)

-- the following cursor's words, or the words as they were
abbrev pub given_words : List ℕ → Given → List ℕ
given_words ws (Given.Child y c) = words_of c
given_words ws (Given.Done c) = ws
given_words ws (Given.Refused c) = ws

abbrev pub next_number : Option Cursor → Outcome ℕ
next_number None = refused 11
next_number (Some c) = given_number (next_of c)

abbrev pub next_words : List ℕ → Option Cursor → List ℕ
next_words ws None = ws
next_words ws (Some c) = given_words ws (next_of c)
