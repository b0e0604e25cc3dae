-- `device::reset` meets its contract: one law for each way out.
use Rattle.device.specs.Calls.{attach_refused, attach_done}
use Rattle.laws.specs.Tries.{never_ok, handed_on}
use Rattle.std.proofs.Math.Path.{refl}
use mathlib.Core.Path.{◌∙◌}
use Rattle.device.proofs.reset.Goals as goal

pub returns-in_err-attach_answer : goal.returns-in_err-attach_answer
returns-in_err-attach_answer c = let a = c.args in
    let e = attach_refused a.t.now _ a.guest a.word _ c.in_err-attach_answer.ensures (never_ok _) in
    record { answer = handed_on _ _ c.from_residual.ensures ∙ e.0; table = e.1.0; store = e.1.1 }

pub returns : goal.returns
returns c = let a = c.args in
    let e = attach_done a.t.now _ a.guest a.word _ c.in_ok-attach_answer.ensures refl _ c.attached.ensures _ c.clear_guest.ensures in
    record { answer = e.0; table = e.1.0; store = e.1.1 }
