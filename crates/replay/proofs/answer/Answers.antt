-- `replay::answer` meets its contract. Assumes nothing.
use Rattle.replay.specs.Laws.{blank_min}
use Rattle.replay.proofs.answer.Goals as goal

pub returns : goal.returns
returns c = let blank = blank_min _ _ _ c.from.ensures c.min-n.ensures in rw blank at c.call.ensures
