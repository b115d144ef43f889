-- What the scanner's state says of the bytes read so far, in the words of Numeral and Lines.
use Rattle.std.specs.Prelude.{ℕ, ◌^◌, ◌≤◌, ◌<◌, min, ◌≡◌, ◌⊎◌, true, false, cond, List, [], ◌∷◌, ◌++◌, length, take, get_or, Option, Some, None}
use Rattle.words.specs.Lines.{parts, words_of}
use Rattle.words.specs.Numeral.{digits, value, numeral, minus, bare}
use Rattle.words.specs.declared.word.Digits.{Digits}
use Rattle.words.specs.declared.word.Word.{Word}
use Rattle.words.specs.declared.line.Line.{Line}

-- no digits, or too large for 64 bits
abbrev pub Beyond : ℕ → List ℕ → Type 0
Beyond base bs = (digits base bs ≡ false) ⊎ (2 ^ 64 ≤ value base bs)

-- digits of the number n
abbrev pub Within : ℕ → ℕ → List ℕ → Type 0
Within base n bs = (digits base bs ≡ true) × (value base bs ≡ n)

abbrev pub held : ℕ → Option ℕ → List ℕ → Type 0
held base None bs = Beyond base bs
held base (Some n) bs = Within base n bs

pub record Spells (base : ℕ) (d : Digits) (bs : List ℕ) : Type 0 where
  pub long : d.count ≡ min (length bs) 17
  pub holds : held base d.value bs

-- the first n bytes of a text are the first 16 of a word
pub record Begun (text : List ℕ) (n : ℕ) (bs : List ℕ) : Type 0 where
  pub wide : length text ≡ 16
  pub same : take n text ≡ take 16 bs

pub record Reads (w : Word) (bs : List ℕ) : Type 0 where
  pub begun : Begun w.text w.hex.count bs
  pub sign : w.minus ≡ minus bs
  pub hex : Spells 16 w.hex bs
  pub decimal : Spells 10 w.decimal (bare bs)

-- a number of 64 bits in a base
abbrev pub natural : ℕ → List ℕ → Option ℕ
natural base bs = cond (numeral base (2 ^ 64) bs) (Some (value base bs)) None

-- what `get_or` gives past an array's end
abbrev pub unread : Word
unread = record { text = []; minus = false; hex = record { value = None; count = 0 }; decimal = record { value = None; count = 0 } }

-- the readings of the first 9 of some words
pub record Shows (vs : List Word) (ws : List (List ℕ)) : Type 0 where
  pub many : length vs ≡ min (length ws) 9
  pub each : (i : ℕ) → i < length vs → Reads (get_or vs i unread) (get_or ws i [])

-- the same in a line's array, and their count
pub record Holds (l : Line) (ws : List (List ℕ)) : Type 0 where
  pub many : l.count ≡ min (length ws) 9
  pub wide : length l.words ≡ 9
  pub each : (i : ℕ) → i < 9 → i < length ws → Reads (get_or l.words i unread) (get_or ws i [])

-- a line whose end is not read yet
pub record Scans (l : Line) (bs : List ℕ) : Type 0 where
  pub ended : Holds l (parts bs).ended
  pub next : Reads l.word (parts bs).next

-- a line that is read whole
pub record Whole (l : Line) (bs : List ℕ) : Type 0 where
  pub words : Holds l (words_of bs)

-- the same line with the word that was being read among its words, and the next one not begun
pub record Closes (l r : Line) : Type 0 where
  pub more : (ws : List (List ℕ)) (w : List ℕ) → Holds l ws → Reads l.word w → Holds r (ws ++ (w ∷ []))
  pub fresh : Reads r.word []
