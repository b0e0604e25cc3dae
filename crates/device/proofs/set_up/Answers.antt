-- `device::set_up` meets its contract: one law for each kind of outcome.
use mathlib.Core.Path.{◌≡◌, refl, sym, ◌∙◌}
use Rattle.std.specs.Prelude.{Bool, true, false, Result, Ok, Err}
use Rattle.std.specs.Result.{is_ok}
use Rattle.lists.specs.Test.{false_true}
use Rattle.model.specs.declared.Refusal.{Refusal}
use Rattle.model.specs.Answer.{ok, answer_in}
use Rattle.laws.specs.Tries.{never_ok}
use Rattle.device.specs.Calls.{set_up_refused, set_up_done}
use Rattle.device.proofs.set_up.Goals as goal
use Rattle.device.proofs.set_up.Goals.{then-is_ok, else-is_ok}

-- the answer, where a test told the kind of outcome
granted : {A : Type 0} (r : Result A Refusal) (b : Bool) → b ≡ is_ok r → b ≡ true → answer_in r ≡ ok
granted (Ok v) b h t = refl
granted (Err e) b h t = absurd (false_true (sym h ∙ t))

refused : {A : Type 0} (r : Result A Refusal) (b : Bool) → b ≡ is_ok r → b ≡ false → answer_in r ≡ ok → ⊥
refused (Ok v) b h t z = absurd (false_true (sym t ∙ h))
refused (Err e) b h t z = never_ok e z

pub returns : goal.returns
returns c = let given = c.config_of-given.ensures in
    let answer = c.set_up_answer-outcome.ensures in
    let kind = c.is_ok.ensures.value in
    elim c.if-is_ok.branch [
      | then-is_ok w ↦ let table = rw (w.shown-is, w.least-is, w.most-is) at c.fresh.ensures in
          let e = set_up_done _ _ _ _ _ _ given answer (granted _ _ kind w.if-is_ok.true) _ (w.store-is ∙ w.clear_all.ensures) _ table in
          record { answer = c.answer.ensures ∙ e.0; table = e.1.0; store = e.1.1 }
      | else-is_ok w ↦ let table = rw (w.shown-is, w.least-is, w.most-is) at c.fresh.ensures in
          let e = set_up_refused _ _ _ _ _ _ given answer (refused _ _ kind w.if-is_ok.false) _ c.no_config-shown.ensures _ table in
          record { answer = c.answer.ensures ∙ e.0; table = e.1.0; store = w.store-is ∙ e.1.1 }
    ]
