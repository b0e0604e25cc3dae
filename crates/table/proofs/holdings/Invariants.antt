-- After each turn every guest's slots so far are counted, and the marks from there on are left.
use mathlib.Core.Path.{◌≡◌}
use lib.ListN.{length}
use Rattle.laws.specs.Bits.{From}
use Rattle.laws.specs.Walk.{Counts}
use Rattle.table.proofs.holdings.Given as goal

abbrev pub invariant-loop-slot : goal.invariant-loop-slot
invariant-loop-slot l = (length l.held ≡ 8) × Counts l.t l.held l.slot-index × From l.t.occupied l.slot-index l.marks
