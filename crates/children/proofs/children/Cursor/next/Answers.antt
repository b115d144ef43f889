-- By the laws of `Calls`.
use Rattle.std.proofs.Common.{◌≤◌, sym, ◌∙◌, arith}
use Rattle.children.proofs.Calls as calls
use Rattle.children.proofs.children.Cursor.next.Goals as goal

pub returns-then-not-is_legal : goal.returns-then-not-is_legal
returns-then-not-is_legal c = calls.refused_call c.args.self (sym c.is_legal.ensures ∙ c.if-not-is_legal.true)

pub returns-in-0 : goal.returns-in-0
returns-in-0 c = calls.done_call c.args.self (sym c.is_legal.ensures ∙ c.if-not-is_legal.false) c.in-0.is

pub returns-in-1 : goal.returns-in-1
returns-in-1 c =
    let s = c.args.self in
    let l = sym c.is_legal.ensures ∙ c.if-not-is_legal.false in
    calls.child_given s _ l (λ z. omega arith) (calls.last_cursor s _ _ (calls.legal_spot s (omega arith) l) c.in-1.is)

pub advance-number-requires : goal.advance-number-requires
advance-number-requires c = calls.asked c.args.self _ _ (calls.legal_spot c.args.self (omega arith) (sym c.is_legal.ensures ∙ c.if-not-is_legal.false)) (omega arith)

pub returns-in_default : goal.returns-in_default
returns-in_default c =
    let s = c.args.self in
    let l = sym c.is_legal.ensures ∙ c.if-not-is_legal.false in
    let h : 2 ≤ s.left = omega arith in
    calls.child_given s _ l (λ z. omega arith) (calls.more_cursor s _ _ (calls.legal_spot s (omega arith) l) h _ _ c.advance-number.ensures)
