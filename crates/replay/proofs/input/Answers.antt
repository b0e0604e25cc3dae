-- `replay::input` meets its contract. Assumes nothing.
use Rattle.std.proofs.Common.{rules}
use Rattle.replay.specs.Laws.{printed_cut}
use Rattle.replay.proofs.input.Goals as goal

pub returns-clause-enough : goal.returns-clause-enough
returns-clause-enough c = λ s. search (rules, printed_cut)
