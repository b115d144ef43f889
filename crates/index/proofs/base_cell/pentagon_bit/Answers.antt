-- The two words are compared with the document's list by a test computed at each number of 7 bits.
use Rattle.std.proofs.Common.{◌≡◌, ℕ, ◌*◌, ◌/◌, ◌%◌, ◌^◌, ◌<◌, cond, arith}
use lib.Bits.{bit_xor}
use Rattle.index.specs.Layout.{is_pentagonal, among}
use Rattle.plane.proofs.Every.{at_eq}
use Rattle.index.proofs.base_cell.pentagon_bit.Goals as goal

same : (x : ℕ) → x < 128 → bit_xor 0x8402004001004010 (0x8422084201084110 * (x / 64)) / 2 ^ (x % 64) % 2 ≡ cond (is_pentagonal x) 1 0
unfolding is_pentagonal among
same = at_eq 128 (λ (i : ℕ). bit_xor 0x8402004001004010 (0x8422084201084110 * (i / 64)) / 2 ^ (i % 64) % 2) (λ (i : ℕ). cond (is_pentagonal i) 1 0) tt

pub returns : goal.returns
returns c = same c.args.b (omega arith)
