-- The sum so far is that of the guests passed.
use mathlib.Core.Path.{◌≡◌}
use Prim.Native.Nat.{◌≤◌, ◌*◌}
use Rattle.lists.specs.Sum.{sum_to, except}
use Rattle.table.specs.Narrow.{lacks}
use Rattle.table.proofs.owed.Given as goal

abbrev pub invariant-loop-i : goal.invariant-loop-i
invariant-loop-i l = (l.sum ≤ 255 * l.i) × (l.sum ≡ sum_to l.i (except l.guest (lacks l.guests l.held)))
