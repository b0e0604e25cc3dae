-- `device::key` meets its contract: one law for each way out.
use Rattle.device.specs.Calls.{key_refused, key_done}
use Rattle.laws.specs.Tries.{never_ok}
use Rattle.std.proofs.Math.Path.{refl}
use Rattle.device.proofs.key.Goals as goal

pub returns-in-Ok : goal.returns-in-Ok
returns-in-Ok c = let found = c.in-Ok.ensures in
    key_done _ _ _ _ _ found.answer refl _ _ found.place found.session _ c.key_part.ensures

pub returns-in-Err : goal.returns-in-Err
returns-in-Err c = key_refused _ _ _ _ _ c.in-Err.ensures.answer (never_ok _)
