-- By the four steps of `Bases`.
use Rattle.std.proofs.Common.{sym, ap, ◌∙◌, arith, ℕ, ◌-◌, ◌*◌, ◌/◌, ◌^◌}
use lib.Bits.{bit_and}
use Rattle.ranks.proofs.Bases.{val, join1, join2, join3, join4, val_digits}
use Rattle.ranks.proofs.rank.in_sevens.Goals as goal

first : ℕ → ℕ
first v = v - bit_and (v / 2 ^ 3) 31274997412295

second : ℕ → ℕ
second v = v - 15 * bit_and (v / 2 ^ 6) 4330384257087

third : ℕ → ℕ
third v = v - 1695 * bit_and (v / 2 ^ 12) 68702703615

pub returns : goal.returns
unfolding first second third
returns c p h e =
    let v = c.args.v in
    sym ((join1 v).1 ∙ (join2 (first v)).1 ∙ (join3 (second (first v))).1 ∙ join4 (third (second (first v))) (omega arith)) ∙ ap (val 7 8 16) e ∙ val_digits 16 p h
