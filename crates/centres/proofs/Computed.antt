-- Reading back, computed: the digit that is left at each length, and the point that is left at the end. For the document's examples. Assumes nothing.
use mathlib.Core.Path.{◌≡◌, refl, sym, ap, ◌∙◌, subst}
use mathlib.Core.Bool.{Bool, true, false, cond}
use mathlib.Core.List.{List, [], ◌∷◌}
use Prim.Native.Nat.{ℕ, zero, suc, ◌<◌}
use native.Mathlib.Omega.{arith}
use lib.Dec.{T}
use Rattle.plane.specs.Directions.{vec, unit}
use Rattle.plane.specs.Points.{normal, Same, same, ij, plus, minus, down7, up7, value}
use Rattle.plane.specs.Strings.{odd}
use Rattle.plane.specs.declared.ijk.IJK.{IJK}
use Rattle.plane.specs.declared.ijk.IJ.{IJ}
use Rattle.plane.proofs.Pairs.{◌⊖◌, ij_plus, ij_minus, ij_same, same_ij}
use Rattle.plane.proofs.Normal.{same_test}
use Rattle.plane.proofs.Units.{unit_value}
use Rattle.plane.proofs.Ups.{some_way}
use Rattle.index.specs.View.{pack}
use Rattle.index.specs.Refusals.{Outcome, answered, refused}
use Rattle.centres.specs.Centres.{StringOf, Reads}
use Rattle.centres.proofs.Reading.{less_ij, longer, shorter}

abbrev pub last_digit : Bool → IJK → ℕ
last_digit o q = value (normal (minus q (down7 o (up7 o q))))

abbrev pub digits_of : ℕ → IJK → List ℕ
digits_of zero q = []
digits_of (suc r) q = last_digit (odd (suc r)) q ∷ digits_of r (up7 (odd (suc r)) q)

abbrev pub rest_of : ℕ → IJK → IJK
rest_of zero q = q
rest_of (suc r) q = rest_of r (up7 (odd (suc r)) q)

abbrev pub read_of : ℕ → IJK → Outcome ℕ
read_of r p = cond (same (rest_of r p) (vec 0 0 0)) (answered (pack 0 (digits_of r p))) (refused 15)

last : (o : Bool) (q : IJK) → (last_digit o q < 7) × Same q (plus (down7 o (up7 o q)) (unit (last_digit o q)))
last o q =
    let w = some_way o q in
    let t = down7 o (up7 o q) in
    let u = unit w.0 in
    let e : ij (minus q t) ≡ ij u = ij_minus q t ∙ ap (λ (p : IJ). p ⊖ ij t) (same_ij q (plus t u) w.2 ∙ ij_plus t u) ∙ less_ij (ij t) (ij u) in
    let d : w.0 ≡ last_digit o q = sym (ap value (ij_same (minus q t) u e) ∙ unit_value w.0 w.1) in
    (subst (λ (x : ℕ). x < 7) d w.1, subst (λ (x : ℕ). Same q (plus t (unit x))) d w.2)

string : (r : ℕ) (p : IJK) → Same (rest_of r p) (vec 0 0 0) → StringOf r p (digits_of r p)
string zero p e = record { long = refl; digits = tt; point = sym e }
string (suc r) p e =
    let o = odd (suc r) in
    let l = last o p in
    longer r (last_digit o p) (digits_of r (up7 o p)) p l.0 l.1 (string r (up7 o p) e)

rest : (r : ℕ) (p : IJK) (ds : List ℕ) → StringOf r p ds → Same (rest_of r p) (vec 0 0 0)
rest zero p [] s = sym s.point
rest zero p (d ∷ ds) s = absurd (let l = s.long in omega arith)
rest (suc r) p ds s = let x = shorter r ds p s in rest r (up7 (odd (suc r)) p) x.0 x.1

pub computed : (r : ℕ) (p : IJK) → Reads r p (read_of r p)
computed r p = go (same (rest_of r p) (vec 0 0 0)) refl
  where
    go : (b : Bool) → same (rest_of r p) (vec 0 0 0) ≡ b → Reads r p (cond b (answered (pack 0 (digits_of r p))) (refused 15))
    go true e = (digits_of r p, string r p ((same_test (rest_of r p) (vec 0 0 0)).0 (subst T (sym e) tt)), refl)
    go false e = (refl, λ ds s. subst T e ((same_test (rest_of r p) (vec 0 0 0)).1 (rest r p ds s)))
