-- `device::create_answer` meets its contract: stage after stage.
use Rattle.device.specs.Answers.{create_stop, create_form, create_grant}
use Rattle.laws.specs.Tries.{never_ok, handed_on}
use Rattle.std.proofs.Math.Path.{refl}
use mathlib.Core.Path.{◌∙◌}
use Rattle.device.proofs.create_answer.Goals as goal

pub returns-in_err-opening_answer-clause-answer : goal.returns-in_err-opening_answer-clause-answer
returns-in_err-opening_answer-clause-answer c = let a = c.args in
    handed_on _ _ c.from_residual.ensures ∙ create_stop _ _ _ a.room a.store _ _ c.is_here.ensures c.in_err-opening_answer.ensures (never_ok _)

pub returns-in_err-form_answer-clause-answer : goal.returns-in_err-form_answer-clause-answer
returns-in_err-form_answer-clause-answer c = let a = c.args in
    handed_on _ _ c.from_residual-in_err-form_answer.ensures
    ∙ create_form _ _ _ a.room a.store _ _ c.is_here.ensures c.in_ok-opening_answer.ensures _ refl c.in_err-form_answer.ensures (never_ok _)

pub returns-clause-answer : goal.returns-clause-answer
returns-clause-answer c = let a = c.args in
    create_grant _ _ _ a.room a.store _ _ c.is_here.ensures c.in_ok-opening_answer.ensures _ _ refl c.in_ok-form_answer.ensures refl c.grant_answer.ensures.answer
