-- `device::key_answer` meets its contract: the answer of the fetch.
use Rattle.device.specs.Calls.{key_answered}
use mathlib.Core.Path.{◌∙◌}
use Rattle.device.proofs.key_answer.Goals as goal

pub returns : goal.returns
returns c = c.answer.ensures ∙ key_answered _ _ _ _ _ c.fetch.ensures.answer
