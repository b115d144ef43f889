-- Words of design/requests.md's rules and their meanings, computed: that the definitions say what the page says.
use mathlib.Core.Path.{◌≡◌, refl}
use mathlib.Core.List.{[], ◌∷◌}
use Rattle.std.specs.Prelude.{Some, None}
use lib.IntN.{pos, negsuc}
use Rattle.words.specs.Numeral.{digits, onward, hexadecimal, natural64, natural32, integer32}
use Rattle.words.specs.Lines.{parts_from, words_of}

pub record Examples : Type 0 where
  -- `0`
  pub zero_word : hexadecimal (48 ∷ []) ≡ Some 0
  -- `80f3fffffffffff`
  pub a_cell : hexadecimal (56 ∷ 48 ∷ 102 ∷ 51 ∷ 102 ∷ 102 ∷ 102 ∷ 102 ∷ 102 ∷ 102 ∷ 102 ∷ 102 ∷ 102 ∷ 102 ∷ 102 ∷ []) ≡ Some 580753245698260991
  -- `ffffffffffffffff`
  pub largest : hexadecimal (102 ∷ 102 ∷ 102 ∷ 102 ∷ 102 ∷ 102 ∷ 102 ∷ 102 ∷ 102 ∷ 102 ∷ 102 ∷ 102 ∷ 102 ∷ 102 ∷ 102 ∷ 102 ∷ []) ≡ Some 18446744073709551615
  -- `00000000000000000`
  pub seventeen_zeros : hexadecimal (48 ∷ 48 ∷ 48 ∷ 48 ∷ 48 ∷ 48 ∷ 48 ∷ 48 ∷ 48 ∷ 48 ∷ 48 ∷ 48 ∷ 48 ∷ 48 ∷ 48 ∷ 48 ∷ 48 ∷ []) ≡ None
  -- ``
  pub no_digit : hexadecimal ([]) ≡ None
  -- `0x1`
  pub prefixed : hexadecimal (48 ∷ 120 ∷ 49 ∷ []) ≡ None
  -- `A`
  pub upper_case : hexadecimal (65 ∷ []) ≡ None
  -- `18446744073709551615`
  pub largest_decimal : natural64 (49 ∷ 56 ∷ 52 ∷ 52 ∷ 54 ∷ 55 ∷ 52 ∷ 52 ∷ 48 ∷ 55 ∷ 51 ∷ 55 ∷ 48 ∷ 57 ∷ 53 ∷ 53 ∷ 49 ∷ 54 ∷ 49 ∷ 53 ∷ []) ≡ Some 18446744073709551615
  -- `18446744073709551616`
  pub too_large : natural64 (49 ∷ 56 ∷ 52 ∷ 52 ∷ 54 ∷ 55 ∷ 52 ∷ 52 ∷ 48 ∷ 55 ∷ 51 ∷ 55 ∷ 48 ∷ 57 ∷ 53 ∷ 53 ∷ 49 ∷ 54 ∷ 49 ∷ 54 ∷ []) ≡ None
  -- `0000000000000000000000000000007`
  pub leading_zeros : natural64 (48 ∷ 48 ∷ 48 ∷ 48 ∷ 48 ∷ 48 ∷ 48 ∷ 48 ∷ 48 ∷ 48 ∷ 48 ∷ 48 ∷ 48 ∷ 48 ∷ 48 ∷ 48 ∷ 48 ∷ 48 ∷ 48 ∷ 48 ∷ 48 ∷ 48 ∷ 48 ∷ 48 ∷ 48 ∷ 48 ∷ 48 ∷ 48 ∷ 48 ∷ 48 ∷ 55 ∷ []) ≡ Some 7
  -- `-0`
  pub signed_where_none : natural64 (45 ∷ 48 ∷ []) ≡ None
  -- `4294967295`
  pub largest_small : natural32 (52 ∷ 50 ∷ 57 ∷ 52 ∷ 57 ∷ 54 ∷ 55 ∷ 50 ∷ 57 ∷ 53 ∷ []) ≡ Some 4294967295
  -- `4294967296`
  pub too_large_small : natural32 (52 ∷ 50 ∷ 57 ∷ 52 ∷ 57 ∷ 54 ∷ 55 ∷ 50 ∷ 57 ∷ 54 ∷ []) ≡ None
  -- `-0`
  pub minus_zero : integer32 (45 ∷ 48 ∷ []) ≡ Some (pos 0)
  -- `-2147483648`
  pub least : integer32 (45 ∷ 50 ∷ 49 ∷ 52 ∷ 55 ∷ 52 ∷ 56 ∷ 51 ∷ 54 ∷ 52 ∷ 56 ∷ []) ≡ Some (negsuc 2147483647)
  -- `2147483648`
  pub too_large_signed : integer32 (50 ∷ 49 ∷ 52 ∷ 55 ∷ 52 ∷ 56 ∷ 51 ∷ 54 ∷ 52 ∷ 56 ∷ []) ≡ None
  -- `--1`
  pub two_signs : integer32 (45 ∷ 45 ∷ 49 ∷ []) ≡ None
  -- `-`
  pub sign_alone : integer32 (45 ∷ []) ≡ None
  -- two blanks, and one at the end, part empty words off
  pub blanks : words_of (97 ∷ 32 ∷ 32 ∷ 98 ∷ 32 ∷ []) ≡ (97 ∷ []) ∷ [] ∷ (98 ∷ []) ∷ [] ∷ []

pub examples : Examples
unfolding digits onward parts_from
examples =
    record {
      zero_word = refl;
      a_cell = refl;
      largest = refl;
      seventeen_zeros = refl;
      no_digit = refl;
      prefixed = refl;
      upper_case = refl;
      largest_decimal = refl;
      too_large = refl;
      leading_zeros = refl;
      signed_where_none = refl;
      largest_small = refl;
      too_large_small = refl;
      minus_zero = refl;
      least = refl;
      too_large_signed = refl;
      two_signs = refl;
      sign_alone = refl;
      blanks = refl;
    }
