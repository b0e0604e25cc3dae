-- `device::part` meets its contract: one law for each way out.
use Rattle.device.specs.Calls.{part_refused, part_done}
use Rattle.laws.specs.Tries.{never_ok}
use Rattle.std.proofs.Math.Path.{refl}
use Rattle.device.proofs.part.Goals as goal

pub returns-in-Err : goal.returns-in-Err
returns-in-Err c = part_refused _ _ _ _ _ c.in-Err.ensures _ (never_ok _)

pub returns-in-Ok : goal.returns-in-Ok
returns-in-Ok c = part_done _ _ _ _ _ c.in-Ok.ensures _ refl _ c.part.ensures
