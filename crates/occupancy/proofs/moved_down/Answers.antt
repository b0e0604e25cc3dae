-- `occupancy::moved_down` meets its contract: the first word takes the lowest bit of the second above its own.
use Rattle.std.proofs.Common.{arith}
use Rattle.laws.specs.Bits.{marks_down}
use Rattle.occupancy.proofs.moved_down.Goals as goal

pub returns : goal.returns
returns c = λ i. marks_down c.args.o i (omega arith) (omega arith)
