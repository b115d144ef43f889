-- Each component is read back as it is.
use Rattle.std.proofs.Common.{ap, ◌∙◌}
use borrow.Author.Rules.{sfits_of}
use Rattle.plane.specs.Points.{normal}
use Rattle.plane.proofs.Bounds.{scaled_read}
use Rattle.plane.proofs.Pairs.{triple_path}
use Rattle.images.proofs.image.weighted.Goals as goal

pub returns : goal.returns
returns c =
    let n = c.args.a in
    let p = c.args.p in
    let q = c.args.q in
    c.normalize.ensures
    ∙ ap normal
    (triple_path _ _ _ _ _ _
    (scaled_read n p.i q.i c.scaled.result (search sfits_of) (search sfits_of) c.scaled.ensures)
    (scaled_read n p.j q.j c.scaled-2.result (search sfits_of) (search sfits_of) c.scaled-2.ensures)
    (scaled_read n p.k q.k c.scaled-3.result (search sfits_of) (search sfits_of) c.scaled-3.ensures))
