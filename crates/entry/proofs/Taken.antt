-- What std's methods take of an answer: the value, or 0 where it is refused, and the refusal's number, or 0 where there is none.
use Rattle.std.proofs.Common.{◌≡◌, ℕ, Option, Result, Ok, Err, refl}
use Rattle.std.specs.Option.{MatchOption}
use Rattle.std.specs.Result.{result_unwrap_or, result_err}
use Rattle.std.proofs.lemmas.Option.{MatchOption-at_none, MatchOption-at_some}
use Rattle.index.specs.Refusals.{number_of}
use Rattle.index.specs.Told.{number, told}
use Rattle.index.specs.declared.refusal.Refusal.{Refusal}
use Rattle.entry.specs.Answers.{value_of}

-- by `unwrap_or(0)`
pub value : (r : Result ℕ Refusal) → result_unwrap_or r 0 ≡ value_of (told r)
value (Ok n) = refl
value (Err x) = refl

-- by `err`, and `Refusal::number` of what it gives
pub refusal : {A : Type 0} (r : Result A Refusal) (o : Option Refusal) (k : ℕ) → o ≡ result_err r → MatchOption o (k ≡ 0) (λ x. k ≡ number x) → k ≡ number_of (told r)
refusal (Ok n) o k e m = MatchOption-at_none (k ≡ 0) (λ x. k ≡ number x) e m
refusal (Err y) o k e m = MatchOption-at_some (k ≡ 0) (λ x. k ≡ number x) y e m
