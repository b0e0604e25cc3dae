-- `device::finish` meets its contract: one law for each way out.
use Rattle.device.specs.Calls.{finish_refused, finish_done}
use Rattle.laws.specs.Tries.{refused_number, granted_number}
use Rattle.model.specs.View.{present}
use mathlib.Core.Path.{ap, ◌∙◌}
use Rattle.device.proofs.finish.Goals as goal

pub returns-in-Err : goal.returns-in-Err
returns-in-Err c = let a = c.args in
    let here = c.is_present-here.ensures ∙ ap (present a.guest) c.guest_of.ensures in
    let e = finish_refused a.t a.guest a.opcode a.verdict _ _ _ here c.finish_answer-outcome.ensures (refused_number _ _ c.in-Err.is) in
    record { answer = c.answer.ensures ∙ e.0; writable = e.1 }

pub returns-in-Ok : goal.returns-in-Ok
returns-in-Ok c = let a = c.args in
    let here = c.is_present-here.ensures ∙ ap (present a.guest) c.guest_of.ensures in
    let e = finish_done a.t a.guest a.opcode a.verdict _ _ _ here c.finish_answer-outcome.ensures (granted_number _ _ c.in-Ok.is) _ _ c.status_of-status.ensures c.put_status.ensures in
    record { answer = e.0; writable = e.1 }
