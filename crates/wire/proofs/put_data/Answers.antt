-- `wire::put_data` meets its contract. Assumes nothing.
use Rattle.std.proofs.Common.{arith}
use Rattle.std.proofs.lemmas.Bool.Decides.{nat_tests}
use Rattle.model.specs.Answer.{data_bytes}
use Rattle.wire.proofs.put_data.Goals as goal

pub returns-then-answer-ne-OK : goal.returns-then-answer-ne-OK
unfolding data_bytes
returns-then-answer-ne-OK c = grind (arith, nat_tests)

pub returns-else-answer-lt-BAD_GUEST : goal.returns-else-answer-lt-BAD_GUEST
unfolding data_bytes
returns-else-answer-lt-BAD_GUEST c = grind (arith, nat_tests)
