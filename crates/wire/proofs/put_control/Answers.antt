-- `wire::put_control` meets its contract. Assumes nothing.
use Rattle.std.proofs.Common.{arith}
use Rattle.std.proofs.lemmas.Bool.Decides.{nat_tests}
use Rattle.model.specs.Answer.{control_bytes}
use Rattle.wire.proofs.put_control.Goals as goal

pub returns-then-answer-lt-BAD_GUEST : goal.returns-then-answer-lt-BAD_GUEST
unfolding control_bytes
returns-then-answer-lt-BAD_GUEST c = grind (arith, nat_tests)

pub returns-else-answer-lt-BAD_GUEST : goal.returns-else-answer-lt-BAD_GUEST
unfolding control_bytes
returns-else-answer-lt-BAD_GUEST c = grind (arith, nat_tests)
