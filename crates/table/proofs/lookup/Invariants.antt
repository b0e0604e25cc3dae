-- What is left of the search from a place on, plus the place, is the whole search.
use mathlib.Core.Path.{◌≡◌}
use Prim.Native.Nat.{◌+◌}
use lib.ListN.{drop}
use Rattle.lists.specs.Seek.{index}
use Rattle.model.specs.Session.{slots_of}
use Rattle.model.specs.View.{live}
use Rattle.table.proofs.lookup.Given as goal

abbrev pub invariant-loop-at : goal.invariant-loop-at
invariant-loop-at l = l.at + index (live l.t l.guest l.number) (drop l.at (slots_of l.t)) ≡ index (live l.t l.guest l.number) (slots_of l.t)
