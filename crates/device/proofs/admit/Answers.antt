-- `device::admit` meets its contract: one law for each way out.
use Rattle.device.specs.Calls.{admit_refused, admit_done}
use Rattle.laws.specs.Tries.{refused_number, granted_number}
use mathlib.Core.Path.{sym, ◌∙◌}
use Rattle.device.proofs.admit.Goals as goal

pub returns-in-Err : goal.returns-in-Err
returns-in-Err c = let number = c.answer-answer.ensures in
    let e = admit_refused _ _ _ _ _ (number ∙ c.data_answer-outcome.ensures) _ c.put_data.ensures (λ z. refused_number _ _ c.in-Err.is (sym number ∙ z)) in
    record { answer = e.0; job = e.1.0; writable = e.1.1 }

pub returns-in-Ok : goal.returns-in-Ok
returns-in-Ok c = let number = c.answer-answer.ensures in
    let granted = number ∙ granted_number _ _ c.in-Ok.is in
    let e = admit_done _ _ _ _ _ (number ∙ c.data_answer-outcome.ensures) _ c.put_data.ensures granted _ _ c.le64.ensures c.le32.ensures in
    record { answer = e.0; job = e.1.0; writable = e.1.1 }
