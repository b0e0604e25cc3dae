-- `text::put_decimal` meets its contract: the digits above the last stand before it. Assumes nothing.
use Rattle.std.proofs.Common.{arith}
use Rattle.std.proofs.lemmas.Grind.{common_steps}
use Rattle.text.specs.Laws.{decimal_more}
use Rattle.text.proofs.+put_decimal.Goals as goal

pub returns : goal.returns
returns t c = rw (decimal_more c.args.n (omega arith)) (grind (arith, common_steps))
