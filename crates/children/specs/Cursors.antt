-- Document 01, 'Counts and listings': the cursor, which cursors calls of this library could have made, and what a call gives.
use Rattle.std.specs.Prelude.{◌≡◌, Bool, true, false, cond, ◌&&◌, ℕ, zero, suc, ◌+◌, ◌-◌, ◌^◌, ◌≤◌, ◌<◌, min, eqb, leb, ℤ}
use Rattle.index.specs.Layout.{res_of, Valid}
use Rattle.index.specs.Refusals.{Outcome, answered, refused}
use Rattle.index.specs.Check.{check_of}
use Rattle.index.specs.Ancestor.{ancestor_of}
use Rattle.descent.specs.Descendants.{count_of}
use Rattle.descent.specs.Positions.{child_at, position_of}
use Rattle.plane.specs.Points.{equal}
use Rattle.children.specs.Skips.{skip_of}
use Rattle.children.specs.declared.children.Cursor.{Cursor}
use Rattle.children.specs.declared.children.Given.{Given}
use Rattle.children.specs.declared.children.Given.TheVariants.{Child, Done, Refused}

-- the cursor over the descendants of n at t, after k of them: it stands at the next one, or at the last when none is left
unfoldable pub cursor_after : ℕ → ℕ → ℕ → Cursor
cursor_after n t k =
    let y = child_at n t (min k (count_of n t - 1)) in
    record { own = res_of n; target = t; number = y; skip = skip_of n y; left = count_of n t - k }

-- the cell whose descendants a cursor gives
abbrev pub owner_of : Cursor → ℕ
owner_of c = ancestor_of c.number c.own

abbrev pub accepted : Outcome ℕ → Bool
accepted (answered n) = true
accepted (refused k) = false

-- what is left goes with the position of y below n: the last child stays when none is left
abbrev pub counted : ℕ → ℕ → ℕ → Bool
counted n y left = cond (eqb left 0) (eqb (position_of n y + 1) (count_of n (res_of y))) (eqb (position_of n y + left) (count_of n (res_of y)))

-- what is left, and the skip, are those of the child y of n
abbrev pub placed : ℕ → ℕ → ℕ → ℤ → Bool
placed n y left skip = counted n y left && equal skip (skip_of n y)

-- a cursor that calls could have made: it stands at a cell of the target resolution, in its place among the descendants of an ancestor
abbrev pub legal : Cursor → Bool
legal c =
    accepted (check_of c.number) && (eqb (res_of c.number) c.target && (leb c.own c.target
    && placed (owner_of c) c.number c.left c.skip))

-- the next child and the cursor after it; Done, or the refusal 11, with the cursor unchanged
unfoldable pub next_of : Cursor → Given
next_of c =
    cond (legal c)
    (cond (eqb c.left 0) (Done c) (Child c.number (cursor_after (owner_of c) c.target (position_of (owner_of c) c.number + 1))))
    (Refused c)

-- the cursor that an answer hands back
abbrev pub handed : Given → Cursor
handed (Child y c) = c
handed (Done c) = c
handed (Refused c) = c

-- a fresh cursor after k calls
unfoldable pub after : ℕ → Cursor → Cursor
after zero c = c
after (suc k) c = handed (next_of (after k c))

-- a fresh cursor and some number of calls make c
pub record Made (c : Cursor) : Type 0 where
  pub cell : ℕ
  pub finer : ℕ
  pub calls : ℕ
  pub fits : cell < 2 ^ 64
  pub valid : Valid cell
  pub low : res_of cell ≤ finer
  pub high : finer ≤ 15
  pub same : c ≡ after calls (cursor_after cell finer 0)
