-- After each turn the guest's slots so far are freed.
use mathlib.Core.Path.{◌≡◌}
use Rattle.laws.specs.Walk.{freed_below}
use Rattle.table.proofs.without_guest.Given as goal

abbrev pub invariant-loop-at : goal.invariant-loop-at
invariant-loop-at l =
    record { config = l.fn.t.config; occupied = l.marks; slots = l.slot-items; guests = l.fn.t.guests } ≡ freed_below l.fn.t l.guest l.at
