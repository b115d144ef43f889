-- Document 01's entries on turns of cells, centres, the walk and the step: what each answers for any numbers.
use Rattle.std.specs.Prelude.{◌≡◌, Bool, List, [], ◌∷◌, ◌++◌, ℕ}
use Rattle.index.specs.Refusals.{Rule, Outcome, answered, refused, judged}
use Rattle.index.specs.Check.{cell_rules}
use Rattle.turns.specs.Turns.{turned_by, pentagon_turned}
use Rattle.plane.specs.declared.ijk.IJK.{IJK}
use Rattle.centres.specs.Centres as centres
use Rattle.walks.specs.Walks.{walked_of, carry_of}
use Rattle.grid.specs.Steps as steps
use Rattle.entry.specs.Rules.{resolution_rule, count_rule, range_rule, onward_rule}

-- in every base cell; the answer is a raw number
abbrev pub turn_of : Bool → ℕ → ℕ → Outcome ℕ
turn_of ccw raw n = judged (cell_rules raw ++ (count_rule n ∷ [])) (turned_by ccw n raw)

abbrev pub pentagon_turn_of : Bool → ℕ → Outcome ℕ
pentagon_turn_of ccw raw = judged (cell_rules raw) (pentagon_turned ccw raw)

abbrev pub centre_of : ℕ → Outcome IJK
centre_of raw = judged (cell_rules raw) (centres.centre_of raw)

-- what is said of an outcome where no rule refuses
abbrev pub Under : Outcome (Unit {0}) → (Outcome ℕ → Type 0) → Outcome ℕ → Type 0
Under (answered u) says o = says o
Under (refused k) says o = o ≡ refused k

-- reading back: the one string of that length with that centre, or refusal 15
abbrev pub ReadsBack : ℕ → IJK → Outcome ℕ → Type 0
ReadsBack r p o = Under (judged (resolution_rule r ∷ range_rule p ∷ []) tt) (centres.Reads r p) o

abbrev pub onward_rules : ℕ → ℕ → List Rule
onward_rules raw d = cell_rules raw ++ (onward_rule d ∷ [])

-- a raw number and the carry; never refusal 17
abbrev pub walk_of : ℕ → ℕ → Outcome (ℕ × ℕ)
walk_of raw d = judged (onward_rules raw d) (walked_of raw d, carry_of raw d)

-- where no rule refuses, what comes after
abbrev pub after : Outcome (Unit {0}) → Outcome steps.Answer → Outcome steps.Answer
after (answered u) o = o
after (refused k) o = refused k

abbrev pub step_of : ℕ → ℕ → Outcome steps.Answer
step_of raw d = after (judged (onward_rules raw d) tt) (steps.step_of raw d)
