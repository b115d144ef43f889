-- Each number of the IJ form is read back as it is, and so are its negative and the sevenths.
use Rattle.std.proofs.Common.{◌≡◌, ◌≤◌, ℕ, Bool, arith, sym, ap, ap₂, ◌∙◌}
use borrow.Author.Rules.{sfits_of}
use lib.IntN.{ℤ, pos, neg_ℤ, nat_abs, ◌+ℤ◌, ◌-ℤ◌, ◌*ℤ◌, +ℤ_comm, +ℤ_idl}
use mir.Syntax.{w32}
use mir.Val.{SFits}
use mir.Facts.{to_z-of_z}
use Rattle.plane.specs.Points.{pair, ij, of_ij, nearest, up7}
use Rattle.plane.specs.Inside.{Is}
use Rattle.plane.specs.declared.ijk.IJ.{IJ}
use Rattle.plane.proofs.Bounds.{fits, rd, abs_neg}
use Rattle.images.proofs.image.up_aperture7.Goals as goal
use Rattle.images.proofs.image.up_aperture7.Goals.{After-to_ij-q}

-- a number z of the IJ form, as it is read from x, and its negative
record Read (x z : ℤ) : Type 0 where
  is : rd x ≡ z
  neg : rd (pos 0 -ℤ rd x) ≡ neg_ℤ z

read : (x z : ℤ) → SFits w32 x → x ≡ z → nat_abs z ≤ 250000000 → Read x z
read x z f e h =
    let r = to_z-of_z f ∙ e in
    let n : pos 0 -ℤ rd x ≡ neg_ℤ z = +ℤ_idl (neg_ℤ (rd x)) ∙ ap neg_ℤ r in
    let g : SFits w32 (pos 0 -ℤ rd x) = fits (pos 0 -ℤ rd x) (omega (arith, ap nat_abs n, abs_neg z)) in
    record { is = r; neg = to_z-of_z g ∙ n }

-- what `seventh` gives, read back
given : (a : ℕ) (x y u v r : ℤ) → x ≡ u → y ≡ v → Is (nearest (pos a *ℤ x +ℤ y)) 1000000000 r → rd r ≡ nearest (pos a *ℤ u +ℤ v)
given a x y u v r p q e = to_z-of_z e.fits ∙ e.is ∙ ap₂ (λ (x y : ℤ). nearest (pos a *ℤ x +ℤ y)) p q

-- both numbers
known : (c : After-to_ij-q) → Read c.to_ij-q.result.i (ij c.args.p).i × Read c.to_ij-q.result.j (ij c.args.p).j
known c =
    let q = c.to_ij-q in
    (read q.result.i _ (search sfits_of) (ap (λ (q : IJ). q.i) q.ensures) c.requires.i, read q.result.j _ (search sfits_of) (ap (λ (q : IJ). q.j) q.ensures) c.requires.j)

pub returns-then-ccw : goal.returns-then-ccw
returns-then-ccw c =
    let u = ij c.args.p in
    let r = known (goal.at.returns-then-ccw c).After-to_ij-q in
    c.of_ij.ensures
    ∙ ap₂ (λ (x y : ℤ). of_ij (pair x y)) (given 3 _ _ u.i (neg_ℤ u.j) c.seventh.result r.0.is r.1.neg c.seventh.ensures) (given 2 _ _ u.j u.i c.seventh-then-ccw.result r.1.is r.0.is c.seventh-then-ccw.ensures ∙ ap nearest (+ℤ_comm (pos 2 *ℤ u.j) u.i))
    ∙ ap (λ (o : Bool). up7 o c.args.p) (sym c.if-ccw.true)

pub returns-else-ccw : goal.returns-else-ccw
returns-else-ccw c =
    let u = ij c.args.p in
    let r = known (goal.at.returns-else-ccw c).After-to_ij-q in
    c.of_ij-else-ccw.ensures
    ∙ ap₂ (λ (x y : ℤ). of_ij (pair x y)) (given 2 _ _ u.i u.j c.seventh-else-ccw.result r.0.is r.1.is c.seventh-else-ccw.ensures) (given 3 _ _ u.j (neg_ℤ u.i) c.seventh-else-ccw-2.result r.1.is r.0.neg c.seventh-else-ccw-2.ensures)
    ∙ ap (λ (o : Bool). up7 o c.args.p) (sym c.if-ccw.false)
