-- `wire::put_outcome` meets its contract. Assumes nothing.
use Rattle.std.proofs.Common.{arith}
use Rattle.model.specs.Answer.{control_outcome}
use Rattle.laws.specs.Chain.{choices}
use Rattle.wire.specs.Write.{control_16, control_1}
use Rattle.wire.proofs.put_outcome.Goals as goal

pub returns-in-16 : goal.returns-in-16
returns-in-16 c = search (control_16, arith)

pub returns-in-1 : goal.returns-in-1
returns-in-1 c = search (control_1, arith)

pub returns-in_default : goal.returns-in_default
unfolding control_outcome
returns-in_default c = search choices
