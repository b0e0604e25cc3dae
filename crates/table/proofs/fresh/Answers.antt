-- The records are what the callees give.
use mathlib.Core.Path.{◌≡◌}
use mathlib.Core.List.{List, map}
use Prim.Native.Nat.{ℕ}
use lib.ListN.{get_or, replicate}
use Rattle.std.specs.List.{range_with_len}
use Rattle.model.specs.declared.Config.{Config}
use Rattle.model.specs.declared.Guest.{Guest}
use Rattle.model.specs.declared.Slot.{Slot}
use Rattle.model.specs.Session.{slot_of, free, new_guest}
use Rattle.model.specs.Setup.{fresh_table}
use Rattle.table.proofs.fresh.Goals as goal

filled : (reserves caps : List ℕ) (k : Config) (s : Slot) (r : List Guest)
    → s ≡ slot_of free
    → r ≡ map (λ g. new_guest (get_or reserves g 0) (get_or caps g 0)) (range_with_len 0 8)
    → record { config = k; occupied = record { low = 0; high = 0 }; slots = replicate 128 s; guests = r } ≡ fresh_table k reserves caps
unfolding fresh_table
filled reserves caps k s r e f = rw (e, f)

pub returns : goal.returns
returns c = search filled
