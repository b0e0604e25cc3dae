-- `wire::put_status` meets its contract. Assumes nothing.
use Rattle.std.proofs.Common.{arith, refl}
use Rattle.std.proofs.lemmas.Grind.{common_steps}
use Rattle.model.specs.Answer.{data_outcome}
use Rattle.wire.specs.Write.{data_empty}
use Rattle.wire.proofs.put_status.Goals as goal

pub returns-in-Some : goal.returns-in-Some
unfolding data_outcome
returns-in-Some c = refl

pub returns-in_default : goal.returns-in_default
returns-in_default c = grind (arith, common_steps, data_empty)
