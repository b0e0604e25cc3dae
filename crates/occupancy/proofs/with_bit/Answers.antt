-- The bit is set by `or` and cleared by `and`; past the 64 there is none.
use mathlib.Core.Path.{sym, ap, ◌∙◌}
use Rattle.std.proofs.Common.{arith}
use lib.Seq.{set_out}
use Rattle.model.specs.Session.{bits_of, word_of}
use Rattle.laws.specs.Bits.{length_bits, word_bits, word_set, word_clear}
use Rattle.occupancy.proofs.with_bit.Goals as goal

pub returns-then-i-ge64 : goal.returns-then-i-ge64
returns-then-i-ge64 c = let w = c.args.w in
    sym (ap word_of (set_out (bits_of 64 w) _ _ (omega (arith, length_bits 64 w))) ∙ word_bits 64 w (omega arith))

pub returns-then-on : goal.returns-then-on
returns-then-on c = let a = c.args in
    rw c.if-on.true (word_set 64 a.w a.i (omega arith) (omega arith))

pub returns-else-on : goal.returns-else-on
returns-else-on c = let a = c.args in
    rw c.if-on.false (word_clear 64 a.w a.i (omega arith) (omega arith))
