-- What is still to be walked is good, and the answers so far with those still to come are all of them.
use Rattle.std.proofs.Common.{◌≡◌, ◌-◌, ◌++◌, true, length, take}
use Rattle.model.specs.Device.{world}
use Rattle.trace.specs.Replay.{trailer, walks, records_of, calls_from, calls_of, answers_from, started}
use Rattle.tally.specs.Count.{tally_of}
use Rattle.replay.proofs.run.Given as goal

abbrev pub invariant-loop-slot : goal.invariant-loop-slot
invariant-loop-slot l = record {
  walk : walks l.s (trailer l.s) l.at ((records_of l.s).count - l.slot-index) ≡ true;
  store : length l.store ≡ 16384;
  answers : take l.slot-index l.slot-items ++ answers_from (world l.t l.store) (calls_from l.s l.at ((records_of l.s).count - l.slot-index))
      ≡ answers_from started (calls_of l.s);
  tally : l.tally ≡ tally_of (take l.slot-index l.slot-items);
}
