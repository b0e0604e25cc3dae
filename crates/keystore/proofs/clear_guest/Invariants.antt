-- After each turn the guest's areas so far are zeroed.
use mathlib.Core.Path.{◌≡◌}
use lib.ListN.{take}
use Rattle.model.specs.Session.{slots_of}
use Rattle.model.specs.View.{owned}
use Rattle.model.specs.Act.{wipe}
use Rattle.keystore.specs.Stored.{cleared}
use Rattle.keystore.proofs.clear_guest.Given as goal

abbrev pub invariant-loop-i : goal.invariant-loop-i
invariant-loop-i l = l.store ≡ cleared l.initial.store (wipe (owned l.guest) (take l.i (slots_of l.t)) l.initial.store)
