-- One word changes, and the other stays.
use Rattle.std.proofs.Common.{arith}
use Rattle.laws.specs.Bits.{marked_low, marked_high}
use Rattle.occupancy.proofs.with_mark.Goals as goal

pub returns-then-slot-lt64 : goal.returns-then-slot-lt64
returns-then-slot-lt64 c = rw c.with_bit.ensures (marked_low _ _ _ (omega arith) c.if-slot-lt64.true)

pub returns : goal.returns
returns c = rw c.with_bit-2.ensures (marked_high _ _ _ (omega arith) c.if-slot-lt64.false)
