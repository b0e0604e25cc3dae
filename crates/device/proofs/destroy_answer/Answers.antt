-- `device::destroy_answer` meets its contract: what its own checks refuse.
use mathlib.Core.Path.{◌∙◌}
use Rattle.std.proofs.Math.Path.{refl}
use Rattle.laws.specs.Tries.{handed_on}
use Rattle.device.specs.Answers.{destroy_end}
use Rattle.device.proofs.destroy_answer.Goals as goal

pub returns-in_err-destroy_answer-clause-answer : goal.returns-in_err-destroy_answer-clause-answer
returns-in_err-destroy_answer-clause-answer c = let a = c.args in
    let found = c.lookup-found.ensures in
    let session = c.session_of.ensures in
    handed_on _ _ c.from_residual-in_err-destroy_answer.ensures
    ∙ destroy_end _ _ _ a.room a.store _ _ c.is_here.ensures c.in_ok-opening_answer.ensures _ _ _ c.le64.ensures (session.alive ∙ found.alive) (session.session ∙ found.session) _ _ c.le32-op.ensures refl c.in_err-destroy_answer.ensures
