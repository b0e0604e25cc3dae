-- `device::create` meets its contract: one law for the grant.
use Rattle.device.specs.Changes.{created}
use Rattle.std.specs.Prelude.{ℕ, length}
use Rattle.std.proofs.Math.Path.{refl, ap, ◌∙◌}
use Rattle.model.specs.Answer.{ok, control_bytes}
use Rattle.device.proofs.create.Goals as goal

pub returns : goal.returns
returns c = let allowed = c.in_ok-at.ensures in
    let grant = allowed.grant in
    let w = c.args.writable.now in
    let key = c.part-key.ensures in
    let e = created _ _ _ (length w) _ allowed.answer _ refl _ _ grant.slot grant.inside grant.number _ c.asked-x.ensures _ c.create_part-start.ensures.value _ key _ c.put_key.ensures _ c.guest_at-r.ensures _ c.granted.ensures in
    record { answer = allowed.answer; table = e.0; store = e.1; writable = c.put_control.ensures ∙ ap (λ (n : ℕ). control_bytes w n ok) grant.number }
