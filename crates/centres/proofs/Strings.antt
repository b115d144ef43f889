-- What reading back answers: one answer for a length and a point, and a cell of base cell 0 and that resolution whose centre is the point in normal
-- form; a cell's centre at its own resolution is read back as the cell of base cell 0 with the same digits. Assumes nothing.
use mathlib.Core.Path.{◌≡◌, refl, sym, ap, ◌∙◌, subst}
use mathlib.Core.List.{List}
use Prim.Native.Nat.{ℕ, ◌≤◌}
use native.Mathlib.Omega.{arith}
use Rattle.plane.specs.Points.{normal}
use Rattle.plane.specs.Strings.{centre}
use Rattle.plane.specs.declared.ijk.IJK.{IJK}
use Rattle.plane.proofs.Centres.{one_centre, centre_normal}
use Rattle.index.specs.Layout.{base_of, res_of, Valid}
use Rattle.index.specs.View.{used, pack, Fit}
use Rattle.index.specs.Refusals.{Outcome, answered, refused}
use Rattle.index.proofs.Runs.{length_used}
use Rattle.index.proofs.View.{fit, pack_valid, pack_base, pack_res, pack_used}
use Rattle.index.proofs.Loose.{bare}
use Rattle.centres.specs.Centres.{centre_of, StringOf, Reads}

pub one_string : (r : ℕ) (p : IJK) (ds es : List ℕ) → StringOf r p ds → StringOf r p es → ds ≡ es
one_string r p ds es a b = one_centre ds es (a.long ∙ sym b.long) a.digits b.digits (sym (centre_normal ds) ∙ a.point ∙ sym b.point ∙ centre_normal es)

pub one_reading : (r : ℕ) (p : IJK) (x y : Outcome ℕ) → Reads r p x → Reads r p y → x ≡ y
one_reading r p (answered n) (answered m) a b = ap answered (a.2 ∙ ap (pack 0) (one_string r p a.0 b.0 a.1 b.1) ∙ sym b.2)
one_reading r p (answered n) (refused k) a b = absurd (b.1 a.0 a.1)
one_reading r p (refused k) (answered n) a b = absurd (a.1 b.0 b.1)
one_reading r p (refused k) (refused m) a b = ap refused (a.0 ∙ sym b.0)

-- what is found
pub record Found (r : ℕ) (p : IJK) (n : ℕ) : Type 0 where
  pub cell : Valid n
  pub base : base_of n ≡ 0
  pub res : res_of n ≡ r
  pub centre : centre_of n ≡ normal p

pub found_centre : (r : ℕ) (p : IJK) (n : ℕ) → r ≤ 15 → Reads r p (answered n) → Found r p n
unfolding centre_of
found_centre r p n h a =
    let ds = a.0 in
    let s = a.1 in
    let l = s.long in
    let f : Fit 0 ds = bare 0 ds (omega arith) (omega arith) s.digits in
    subst (Found r p) (sym a.2)
    (record {
      cell = pack_valid 0 ds f;
      base = pack_base 0 ds f;
      res = pack_res 0 ds f ∙ l;
      centre = ap centre (ap (used (pack 0 ds)) (pack_res 0 ds f) ∙ pack_used 0 ds f) ∙ sym (centre_normal ds) ∙ s.point;
    })

pub centre_found : (n : ℕ) → Valid n → (x : Outcome ℕ) → Reads (res_of n) (centre_of n) x → x ≡ answered (pack 0 (used n (res_of n)))
unfolding centre_of
centre_found n v x a =
    let ds = used n (res_of n) in
    one_reading (res_of n) (centre_of n) x (answered (pack 0 ds)) a
    (ds, record { long = length_used n (res_of n); digits = (fit n v).digits; point = refl }, refl)
