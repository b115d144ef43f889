-- Document 01's entries that take a cell: what each answers for any numbers.
use Rattle.std.specs.Prelude.{not, List, [], ◌∷◌, ◌++◌, ℕ, ◌+◌, ltb, drop, Option, Some, None, Result, Ok, Err}
use Rattle.index.specs.Layout.{res_of}
use Rattle.index.specs.Refusals.{Rule, ◌when◌, Outcome, answered, refused, judged}
use Rattle.index.specs.Check.{cell_rules}
use Rattle.index.specs.Told.{number}
use Rattle.index.specs.declared.refusal.Refusal.{Refusal}
use Rattle.index.specs.Ancestor as ancestor
use Rattle.descent.specs.Descendants as descendants
use Rattle.descent.specs.Positions as positions
use Rattle.descent.specs.declared.descent.Descent.{Descent}
use Rattle.children.specs.Cursors.{cursor_after}
use Rattle.children.specs.declared.children.Cursor.{Cursor}
use Rattle.children.specs.declared.children.Given.{Given}
use Rattle.children.specs.declared.children.Given.TheVariants as given
use Rattle.entry.specs.Rules.{resolution_rule}

abbrev pub valid_of : ℕ → Outcome (Unit {0})
valid_of raw = judged (cell_rules raw) tt

-- a cell and a wanted finer resolution
abbrev pub finer_rules : ℕ → ℕ → List Rule
finer_rules raw t = cell_rules raw ++ (resolution_rule t ∷ (9 when ltb t (res_of raw)) ∷ [])

abbrev pub finer_of : ℕ → ℕ → Outcome (ℕ × ℕ)
finer_of raw t = judged (finer_rules raw t) (raw, t)

abbrev pub wanted_told : Result Descent Refusal → Outcome (ℕ × ℕ)
wanted_told (Ok d) = answered (d.cell, d.target)
wanted_told (Err x) = refused (number x)

abbrev pub count_of : ℕ → ℕ → Outcome ℕ
count_of raw t = judged (finer_rules raw t) (descendants.count_of raw t)

-- the position is not below the count
abbrev pub child_at_of : ℕ → ℕ → ℕ → Outcome ℕ
child_at_of raw t p = judged (finer_rules raw t ++ ((11 when not (ltb p (descendants.count_of raw t))) ∷ [])) (positions.child_at raw t p)

abbrev pub cursor_of : ℕ → ℕ → Outcome Cursor
cursor_of raw t = judged (finer_rules raw t) (cursor_after raw t 0)

-- a cursor is refused by 11 alone; it is handed back in each case
abbrev pub given_told : Given → Outcome (Option ℕ)
given_told (given.Child y c) = answered (Some y)
given_told (given.Done c) = answered None
given_told (given.Refused c) = refused 11

-- the listing's count, in a buffer of so many elements
abbrev pub room_rule : ℕ → ℕ → ℕ → Rule
room_rule n t room = 10 when ltb room (descendants.count_of n t)

abbrev pub room_of : ℕ → ℕ → ℕ → Outcome ℕ
room_of n t room = judged (room_rule n t room ∷ []) (descendants.count_of n t)

abbrev pub list_of : ℕ → ℕ → ℕ → Outcome ℕ
list_of raw t room = judged (finer_rules raw t ++ (room_rule raw t room ∷ [])) (descendants.count_of raw t)

-- the short listing takes the own resolution plus 1
abbrev pub list_short_of : ℕ → ℕ → Outcome ℕ
list_short_of raw room = list_of raw (res_of raw + 1) room

-- the buffer afterwards: the listing from element 0 and later elements as they were, or as it was where it is refused
abbrev pub afterwards : Outcome ℕ → ℕ → ℕ → List ℕ → List ℕ
afterwards (answered k) n t buffer = positions.listing n t ++ drop k buffer
afterwards (refused k) n t buffer = buffer

-- the second cell is not a descendant of the first
abbrev pub position_of : ℕ → ℕ → Outcome ℕ
position_of n y = judged (cell_rules n ++ (cell_rules y ++ ((12 when not (positions.under n y)) ∷ []))) (positions.position_of n y)

-- a wanted ancestor's resolution is finer
abbrev pub ancestor_of : ℕ → ℕ → Outcome ℕ
ancestor_of raw r = judged (cell_rules raw ++ (resolution_rule r ∷ (9 when ltb (res_of raw) r) ∷ [])) (ancestor.ancestor_of raw r)
