-- The front has the key's bytes so far.
use mathlib.Core.Path.{◌≡◌}
use lib.ListN.{length, take}
use Rattle.keystore.proofs.fill.Given as goal

abbrev pub invariant-loop-i : goal.invariant-loop-i
invariant-loop-i l = (length l.front ≡ length l.initial.front) × (take l.i l.front ≡ take l.i l.key)
