-- The step's answers in the words of the demands: an answer inside is a number that stands for the centre moved by the direction, turned by the turn
-- number; Leaves is given exactly where such a number has a carry that is not 0. Assumes nothing.
use mathlib.Core.Path.{◌≡◌, refl, sym, ap, ap₂, ◌∙◌, subst}
use mathlib.Core.Bool.{Bool, true, not}
use mathlib.Core.Logic.{◌⊎◌, inl, inr, ◌↔◌}
use mathlib.Core.List.{List, map}
use Prim.Native.Nat.{ℕ, ◌%◌, ◌^◌, ◌<◌, ◌≤◌}
use native.Mathlib.Omega.{arith}
use Rattle.plane.specs.Directions.{turns}
use Rattle.plane.specs.Strings.{Digits}
use Rattle.index.specs.Layout.{base_of, is_pentagonal, Valid}
use Rattle.index.specs.View.{pack}
use Rattle.index.specs.Refusals.{Outcome, answered}
use Rattle.turns.specs.Turns.{turned_by}
use Rattle.turns.proofs.Turning.{digits_turned, turned_none, turned_once_more, six_turned, turned_undone}
use Rattle.walks.specs.Walks.{Moved, walked_of, carry_of}
use Rattle.walks.proofs.Walks.{walk_moved, walk_only}
use Rattle.grid.specs.Steps.{Answer, inside, leaves, step_of}
use Rattle.grid.proofs.Steps.{news, news_digits, walked_used, leaving}
use Rattle.grid.proofs.Inside.{Case, left, stayed, deleted, ccw, cw, cases, within, never}

-- once the other way is five times this way
five_turned : (o : Bool) (ds : List ℕ) → Digits ds → map (turns (not o) 1) ds ≡ map (turns o 5) ds
five_turned o ds h =
    ap (map (turns (not o) 1)) (sym (six_turned o ds h) ∙ turned_once_more o 5 ds) ∙ turned_undone o 1 (map (turns o 5) ds) (digits_turned o 5 ds h)

-- the bits above the digits stay, so a moved number has 64 bits too
moved_below : (n way y carry : ℕ) → n < 2 ^ 64 → Moved n way y carry → y < 2 ^ 64
moved_below n way y carry h m = let u = m.upper in omega arith

-- a turn number is 0, or, in a pentagon base cell only, 1 or 5
abbrev pub TurnNumber : ℕ → ℕ → Type 0
TurnNumber n t = (t ≡ 0) ⊎ ((is_pentagonal (base_of n) ≡ true) × ((t ≡ 1) ⊎ (t ≡ 5)))

-- what Inside with the number m and the turn number t says: m is y turned t times counter-clockwise, each used digit of it, where y with no carry stands for
-- the centre of n moved by the direction
pub record InsideMeant (n way m t : ℕ) : Type 0 where
  pub y : ℕ
  pub moved : Moved n way y 0
  pub turned : m ≡ turned_by true t y
  pub number : TurnNumber n t

-- what Leaves with the direction d says: some y with the carry d, 1 to 6, stands for the centre of n moved by the direction
pub record LeavesMeant (n way d : ℕ) : Type 0 where
  pub y : ℕ
  pub moved : Moved n way y d
  pub least : 1 ≤ d
  pub most : d ≤ 6

left_alone : (x : Outcome Answer) (d k : ℕ) → x ≡ answered (leaves d) → x ≡ answered (leaves k) → k ≡ d
left_alone x d k p q = cc

module _ (n way : ℕ) (h : n < 2 ^ 64) (v : Valid n) (hw : way < 7) where
  -- the walk's number, turned
  turned_walk : (t : ℕ) → turned_by true t (walked_of n way) ≡ pack (base_of n) (map (turns true t) (news n way))
  unfolding turned_by
  turned_walk t =
      ap₂ (λ (b : ℕ) (ds : List ℕ). pack b (map (turns true t) ds)) (ap (λ (x : ℕ). x % 128) (walk_moved n way h v hw).upper) (walked_used n way v hw)

  pub inside_meant : (m t : ℕ) → step_of n way ≡ answered (inside m t) → InsideMeant n way m t
  inside_meant m t e = go (cases n way v hw)
    where
      meant : (es : List ℕ) (k : ℕ) → carry_of n way ≡ 0 → step_of n way ≡ answered (inside (pack (base_of n) es) k) → es ≡ map (turns true k) (news n way) → TurnNumber n k → InsideMeant n way m t
      meant es k z s q c =
          let w = within (step_of n way) (pack (base_of n) es) k m t s e in
          record {
            y = walked_of n way;
            moved = subst (Moved n way (walked_of n way)) z (walk_moved n way h v hw);
            turned = sym w.0 ∙ ap (pack (base_of n)) q ∙ sym (turned_walk k) ∙ ap (λ (j : ℕ). turned_by true j (walked_of n way)) w.1;
            number = subst (TurnNumber n) w.1 c;
          }

      go : Case n way → InsideMeant n way m t
      go (left f s) = (never (step_of n way) m t e).0 (carry_of n way) s
      go (stayed z k s) = meant (news n way) 0 z s (sym (turned_none true (news n way))) (inl refl)
      go (deleted z p g f s) = (never (step_of n way) m t e).1 17 s
      go (ccw z p g f s) = meant _ 1 z s refl (inr (p, inl refl))
      go (cw z p g f s) = meant _ 5 z s (five_turned true (news n way) (news_digits n way v hw)) (inr (p, inr refl))

  pub leaves_meant : (d : ℕ) → (step_of n way ≡ answered (leaves d)) ↔ LeavesMeant n way d
  leaves_meant d = (λ e. there e (cases n way v hw), back)
    where
      there : step_of n way ≡ answered (leaves d) → Case n way → LeavesMeant n way d
      there e (left f s) =
          let q : carry_of n way ≡ d = left_alone (step_of n way) d (carry_of n way) e s in
          let m = subst (Moved n way (walked_of n way)) q (walk_moved n way h v hw) in
          record { y = walked_of n way; moved = m; least = low (λ z. f (q ∙ z)); most = omega (arith, m.direction) }
        where
          low : (d ≡ 0 → ⊥) → 1 ≤ d
          low x = omega arith
      there e (stayed z k s) = (never (step_of n way) _ 0 s).0 d e
      there e (deleted z p g f s) = absurd (let z : ◌≡◌ {A = ℕ} 0 1 = cc in omega arith)
      there e (ccw z p g f s) = (never (step_of n way) _ 1 s).0 d e
      there e (cw z p g f s) = (never (step_of n way) _ 5 s).0 d e

      back : LeavesMeant n way d → step_of n way ≡ answered (leaves d)
      back l =
          let o = walk_only n way l.y d (moved_below n way l.y d h l.moved) v hw l.moved in
          leaving n way (λ z. let a = l.least in let b = o.1 in omega arith) ∙ ap (λ (x : ℕ). answered (leaves x)) (sym o.1)
