-- A store past the end changes nothing.
use Rattle.std.proofs.Common.{arith}
use lib.Seq.{set_out}
use Rattle.model.specs.Act.{with_guest}
use Rattle.table.proofs.with_guest.Goals as goal

pub returns-then-from-guests : goal.returns-then-from-guests
unfolding with_guest
returns-then-from-guests c = rw c.from-then-from-guests.ensures

pub returns-else-from-guests : goal.returns-else-from-guests
unfolding with_guest
returns-else-from-guests c = let a = c.args in
    rw (set_out a.t.now.guests a.guest a.recorded (omega arith))
