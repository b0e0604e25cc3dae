-- `device::control` meets its contract: one law for each way out.
use Prim.Native.Nat.{ℕ}
use Rattle.device.specs.Changes.{written_refused, written_granted, controlled}
use Rattle.model.specs.Answer.{control_bytes}
use Rattle.std.proofs.Common.{refl, sym, ap, ◌∙◌}
use Rattle.device.proofs.control.Goals as goal

pub returns-then-answer-ne-OK : goal.returns-then-answer-ne-OK
returns-then-answer-ne-OK c = let done = c.change-outcome.ensures in
    let answer = c.answer-answer.ensures in
    let outcome = c.put_control.ensures ∙ ap (λ (n : ℕ). control_bytes c.change-outcome.new.writable 0 n) answer in
    let written = written_refused _ _ _ _ done.writable (λ z. c.if-answer-ne-OK.true (answer ∙ z)) _ outcome in
    let e = controlled _ _ _ _ _ _ _ _ _ _ done.answer refl done.table done.store written in
    record { answer = answer ∙ e.0; table = e.1.0; store = e.1.1.0; writable = e.1.1.1 }

pub returns-else-answer-ne-OK : goal.returns-else-answer-ne-OK
returns-else-answer-ne-OK c = let done = c.change-outcome.ensures in
    let answer = c.answer-answer.ensures in
    let e = controlled _ _ _ _ _ _ _ _ _ _ done.answer refl done.table done.store (written_granted _ _ _ _ done.writable (sym answer ∙ c.if-answer-ne-OK.false)) in
    record { answer = answer ∙ e.0; table = e.1.0; store = e.1.1.0; writable = e.1.1.1 }
