-- `wire::part` meets its contract. Assumes nothing.
use Rattle.std.proofs.Common.{arith}
use Rattle.std.proofs.lemmas.Grind.{common_steps}
use Rattle.model.specs.Bytes.{part}
use Rattle.wire.proofs.part.Goals as goal

pub returns : goal.returns
unfolding part
returns c = grind (arith, common_steps)
