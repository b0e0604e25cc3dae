-- A bit of the 64 is the machine's, and past them there is none.
use mathlib.Core.Path.{sym, ◌∙◌}
use mathlib.Core.Bool.{false}
use borrow.Author.Tests.{le-ltb}
use Rattle.std.proofs.Common.{arith}
use lib.ListN.{get_or-eq_default}
use Rattle.model.specs.Session.{bit, bits_of}
use Rattle.laws.specs.Bits.{length_bits, bit_at}
use Rattle.occupancy.proofs.has_bit.Goals as goal

pub returns-then-i-lt64 : goal.returns-then-i-lt64
unfolding bit
returns-then-i-lt64 c = sym (bit_at 64 _ _ (omega arith))

pub returns-else-i-lt64 : goal.returns-else-i-lt64
returns-else-i-lt64 c = let w = c.args.w in
    le-ltb c.args.i 64 (omega arith) ∙ sym (get_or-eq_default (bits_of 64 w) false {n = c.args.i} (omega (arith, length_bits 64 w)))
