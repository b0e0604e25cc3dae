-- `text::put_lines` meets its contract. Assumes nothing.
use Rattle.std.proofs.Common.{arith}
use Rattle.std.proofs.lemmas.Grind.{common_steps}
use Rattle.text.specs.Laws.{lines_more}
use Rattle.text.proofs.put_lines.Goals as goal

pub loop-index-preserved : goal.loop-index-preserved
loop-index-preserved c = rw (lines_more c.args.answers.now c.loop-index.index (omega arith)) (grind (arith, common_steps))
