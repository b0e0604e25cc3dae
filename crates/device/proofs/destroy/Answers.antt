-- `device::destroy` meets its contract: one law for the grant.
use Rattle.device.specs.Changes.{destroyed}
use Rattle.std.specs.Prelude.{length}
use Rattle.std.proofs.Math.Path.{refl}
use Rattle.device.proofs.destroy.Goals as goal

pub returns : goal.returns
returns c = let allowed = c.in_ok-at.ensures in
    let e = destroyed _ _ _ (length c.args.writable.now) _ allowed.answer _ refl _ allowed.place _ c.clear_area.ensures _ c.without_slot.ensures in
    record { answer = allowed.answer; table = e.0; store = e.1; writable = c.put_control.ensures }
