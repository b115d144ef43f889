-- The words of a line, from design/requests.md: "Words are parted by one blank." A line is the list of its bytes without the line end.
use Rattle.std.specs.Prelude.{ℕ, Bool, true, false, cond, not, ◌&&◌, List, [], ◌∷◌, ◌++◌, eqb}

-- a line as far as it is read: the words that a blank has ended, and the bytes of the next
pub record Parts : Type 0 where
  pub ended : List (List ℕ)
  pub next : List ℕ

abbrev pub part : Parts → ℕ → Parts
part p b =
    cond (eqb b 32)
    (record { ended = p.ended ++ (p.next ∷ []); next = [] })
    (record { ended = p.ended; next = p.next ++ (b ∷ []) })

unfoldable pub parts_from : Parts → List ℕ → Parts
parts_from p [] = p
parts_from p (b ∷ bs) = parts_from (part p b) bs

abbrev pub parts : List ℕ → Parts
parts bs = parts_from (record { ended = []; next = [] }) bs

-- the end of the line ends its last word
abbrev pub words_of : List ℕ → List (List ℕ)
words_of bs = (parts bs).ended ++ ((parts bs).next ∷ [])

-- each word with a blank behind it
unfoldable pub spaced : List (List ℕ) → List ℕ
spaced [] = []
spaced (w ∷ ws) = w ++ (32 ∷ spaced ws)

-- no blank in a word, or in any of some
unfoldable pub plain : List ℕ → Bool
plain [] = true
plain (b ∷ bs) = not (eqb b 32) && plain bs

unfoldable pub all_plain : List (List ℕ) → Bool
all_plain [] = true
all_plain (w ∷ ws) = plain w && all_plain ws

-- whether a line begins with a name
abbrev pub starts_with : List ℕ → List ℕ → Bool
starts_with [] bs = true
starts_with (a ∷ name) [] = false
starts_with (a ∷ name) (b ∷ bs) = eqb b a && starts_with name bs
