-- The guests so far have their shares.
use mathlib.Core.Path.{◌≡◌}
use Prim.Native.Nat.{ℕ, ◌<◌}
use lib.ListN.{length, get_or}
use Rattle.model.specs.Session.{new_guest}
use Rattle.table.proofs.fresh_guests.Given as goal

abbrev pub invariant-loop-i : goal.invariant-loop-i
invariant-loop-i l =
    (length l.guest-items ≡ 8) × ((g : ℕ) → g < l.i → get_or l.guest-items g (new_guest 0 0) ≡ new_guest (get_or l.reserves g 0) (get_or l.caps g 0))
