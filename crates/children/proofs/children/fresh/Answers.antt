use Rattle.std.proofs.Common.{ℕ, sym, ap, ◌∙◌, subst, arith}
use mir.Syntax.{w32}
use mir.Val.{SFits}
use mir.Facts.{to_z-of_z}
use Rattle.index.specs.Layout.{res_of}
use Rattle.descent.specs.Positions.{child_at}
use Rattle.descent.proofs.Start.{some_child}
use Rattle.children.proofs.Moves.{fresh_skip, skip_fits}
use Rattle.children.proofs.Stands.{same_cursor, cursor_at}
use Rattle.children.proofs.children.fresh.Goals as goal

pub returns : goal.returns
returns c =
    let d = c.args.d in
    let n : ℕ = d.cell in
    let t : ℕ = d.target in
    let f = c.first.ensures in
    let target = c.number-target.ensures.value ∙ c.target.ensures in
    let q = fresh_skip n t (omega arith) f.valid d.finer f.bound _ _ _ c.cell-cell.ensures target c.skip_count.ensures in
    same_cursor _ _ (c.number-own.ensures.value ∙ c.resolution.ensures ∙ ap res_of c.cell-cell.ensures) target f.value
    (to_z-of_z (subst (SFits w32) (sym q) (skip_fits n (child_at n t 0))) ∙ q) (omega (arith, c.count.ensures))
    ∙ sym (cursor_at n t 0 (some_child n t (omega arith) f.valid d.finer f.bound))
