-- A mark and its slot stored; past the end the slot is none.
use Rattle.std.proofs.Common.{arith}
use lib.Seq.{set_out}
use Rattle.laws.specs.Slots.{stored_at}
use Rattle.model.specs.Session.{place_of, slot_of}
use Rattle.table.proofs.with_slot.Goals as goal

pub returns-then-at-lt128 : goal.returns-then-at-lt128
unfolding slot_of
returns-then-at-lt128 c = let marks = c.occupied.ensures in
    rw (c.with_mark-t.ensures, marks.value) (stored_at c.args.t.now marks.slots _ _)

pub returns-else-at-lt128 : goal.returns-else-at-lt128
unfolding slot_of
returns-else-at-lt128 c = let a = c.args in
    let marks = c.occupied.ensures in
    rw (c.with_mark-t.ensures, marks.value) (rw (set_out a.t.now.slots a.at a.slot (omega arith)) at (stored_at a.t.now marks.slots a.at (place_of a.held a.slot)))
