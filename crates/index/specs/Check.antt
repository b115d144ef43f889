-- Document 01, refusals 1 to 7: the check of a raw number, and what its answer says.
use Rattle.std.specs.Prelude.{ℕ, zero, suc, ◌+◌, ◌-◌, Bool, false, not, ◌&&◌, ◌||◌, List, [], ◌∷◌, ◌==◌, nat_eq, nat_lt}
use Rattle.index.specs.Layout.{top_bit, mode_of, reserved_of, res_of, base_of, digit, first_of, is_pentagonal}
use Rattle.index.specs.Refusals.{Rule, ◌when◌, Outcome, judged}

-- f holds at one of the places 1 to k
unfoldable pub some : (ℕ → Bool) → ℕ → Bool
some f zero = false
some f (suc k) = some f k || f (suc k)

-- a used digit is 7
abbrev pub some_seven : ℕ → Bool
some_seven n = some (λ r. nat_eq (digit n r) 7) (res_of n)

-- an unused digit is not 7
abbrev pub some_other : ℕ → Bool
some_other n = some (λ i. not (digit n (res_of n + i) == 7)) (15 - res_of n)

-- the document's table, 1 to 7
abbrev pub cell_rules : ℕ → List Rule
cell_rules n =
    (1 when nat_eq (top_bit n) 1)
    ∷ (2 when not (mode_of n == 1))
    ∷ (3 when not (reserved_of n == 0))
    ∷ (4 when nat_lt 121 (base_of n))
    ∷ (5 when some_seven n)
    ∷ (6 when some_other n)
    ∷ (7 when is_pentagonal (base_of n) && first_of n (res_of n) == 1)
    ∷ []

-- the check of a raw number: the number itself, or the refusal
abbrev pub check_of : ℕ → Outcome ℕ
check_of n = judged (cell_rules n) n
