-- `trace::records_end` meets its contract: what is left of the walk is the walk. Assumes nothing.
use Rattle.std.proofs.Common.{◌≡◌, ◌-◌}
use Rattle.trace.specs.Replay.{walks}
use Rattle.trace.proofs.records_end.Given as goal

abbrev pub invariant-loop : goal.invariant-loop
invariant-loop l = walks l.s l.end-2 l.at (l.end - l.counter) ≡ walks l.s l.end-2 l.initial.at l.end
