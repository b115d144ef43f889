-- What a caller learns when it takes the check's answer apart. Assumes nothing.
use Rattle.std.proofs.Common.{◌≡◌, ℕ, List, ◌++◌, sym, ap, ◌∙◌, Result, Ok, Err}
use Rattle.index.specs.Layout.{Valid}
use Rattle.index.specs.Refusals.{Rule, answered, refused, judged}
use Rattle.index.specs.Check.{cell_rules, check_of}
use Rattle.index.specs.Told.{number, told}
use Rattle.index.proofs.Rules.{answered_same, early, cleared}
use Rattle.index.proofs.Validity.{accepted_valid, valid_clear}
use Rattle.index.specs.declared.refusal.Refusal.{Refusal}

-- the arm of a cell: the number is valid, and the cell is that number
pub of_cell : (n : ℕ) (a : Result ℕ Refusal) (c : ℕ) → a ≡ Ok c → told a ≡ check_of n → (c ≡ n) × Valid n
of_cell n a c p q =
    let e : check_of n ≡ answered c = sym q ∙ ap told p in
    let z : n ≡ c = answered_same (cell_rules n) n c e in
    (sym z, accepted_valid n (e ∙ ap answered (sym z)))

-- the arm of a refusal
pub of_refusal : (n : ℕ) (a : Result ℕ Refusal) (x : Refusal) → a ≡ Err x → told a ≡ check_of n → check_of n ≡ refused (number x)
of_refusal n a x p q = sym q ∙ ap told p

-- what an entry whose rules begin with those of a cell goes on with
module _ {B : Type 0} (n : ℕ) (more : List Rule) (b : B) where
  pub past_cell : Valid n → judged (cell_rules n ++ more) b ≡ judged more b
  past_cell v = cleared (cell_rules n) more b (valid_clear n v)

  pub hit_cell : (k : ℕ) → check_of n ≡ refused k → judged (cell_rules n ++ more) b ≡ refused k
  hit_cell k e = early (cell_rules n) more n b k e
