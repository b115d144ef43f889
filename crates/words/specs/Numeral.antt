-- What a word of a request means as a number, from design/requests.md: "1 to 16 lower-case hexadecimal digits";
-- else "one or more digits, leading zeros allowed, whose value fits its place", with `-` before a signed one. A word is the list of its bytes.
use Rattle.std.specs.Prelude.{ℕ, ◌+◌, ◌-◌, ◌*◌, ◌^◌, Bool, true, false, cond, ◌&&◌, List, [], ◌∷◌, ltb, leb, eqb, length, ℤ, pos, neg_ℤ, Option, Some, None}

-- `0` to `9`, `a` to `f`; 16 for any other byte
abbrev pub digit_of : ℕ → ℕ
digit_of b = cond (ltb b 48) 16 (cond (leb b 57) (b - 48) (cond (ltb b 97) 16 (cond (leb b 102) (b - 97 + 10) 16)))

-- each byte is a digit of the base
unfoldable pub digits : ℕ → List ℕ → Bool
digits base [] = true
digits base (b ∷ bs) = ltb (digit_of b) base && digits base bs

-- the number n with digits written after it
unfoldable pub onward : ℕ → ℕ → List ℕ → ℕ
onward base n [] = n
onward base n (b ∷ bs) = onward base (n * base + digit_of b) bs

abbrev pub value : ℕ → List ℕ → ℕ
value base bs = onward base 0 bs

-- one or more digits, of a number below the bound
abbrev pub numeral : ℕ → ℕ → List ℕ → Bool
numeral base bound bs = ltb 0 (length bs) && digits base bs && ltb (value base bs) bound

abbrev pub hexadecimal : List ℕ → Option ℕ
hexadecimal bs = cond (ltb 0 (length bs) && digits 16 bs && leb (length bs) 16) (Some (value 16 bs)) None

abbrev pub natural64 : List ℕ → Option ℕ
natural64 bs = cond (numeral 10 (2 ^ 64) bs) (Some (value 10 bs)) None

abbrev pub natural32 : List ℕ → Option ℕ
natural32 bs = cond (numeral 10 (2 ^ 32) bs) (Some (value 10 bs)) None

abbrev pub minus : List ℕ → Bool
minus [] = false
minus (b ∷ bs) = eqb b 45

-- the word after a `-` in front
abbrev pub bare : List ℕ → List ℕ
bare [] = []
bare (b ∷ bs) = cond (eqb b 45) bs (b ∷ bs)

abbrev pub integer32 : List ℕ → Option ℤ
integer32 bs =
    cond (minus bs)
    (cond (numeral 10 (2 ^ 31 + 1) (bare bs)) (Some (neg_ℤ (pos (value 10 (bare bs))))) None)
    (cond (numeral 10 (2 ^ 31) (bare bs)) (Some (pos (value 10 (bare bs)))) None)
