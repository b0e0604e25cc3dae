-- The set bits of both words.
use Rattle.std.proofs.Common.{arith}
use Rattle.laws.specs.Bits.{marks_count}
use Rattle.occupancy.proofs.held_count.Goals as goal

pub returns : goal.returns
returns c = marks_count c.args.o (omega arith) (omega arith)
