-- `text::put_text` meets its contract. Assumes nothing.
use Rattle.std.proofs.Common.{arith}
use Rattle.std.proofs.lemmas.Grind.{common_steps}
use Rattle.text.specs.Lines.{text}
use Rattle.text.specs.Laws.{length_text}
use Rattle.text.proofs.put_text.Goals as goal

pub returns-clause-lines : goal.returns-clause-lines
unfolding text
returns-clause-lines c = λ few room.
    let whole = length_text c.args.answers.now c.args.granted (λ k. omega (arith, c.type_inv.answers k)) (omega arith) few in
    grind (arith, common_steps)
