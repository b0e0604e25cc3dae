-- `rules::shares_ok` meets its contract: the shares so far are right, and `sum` is that of their reserves.
use Rattle.std.proofs.Common.{◌≡◌, ◌*◌, ◌≤◌, length, true}
use Rattle.lists.specs.Sum.{sum_to}
use Rattle.model.specs.Setup.{all_to}
use Rattle.rules.specs.Shares.{share_ok, reserve_of}
use Rattle.rules.proofs.shares_ok.Given as goal

abbrev pub invariant-loop-reserve : goal.invariant-loop-reserve
invariant-loop-reserve l = record {
  sum : l.sum ≡ sum_to (length l.yielded) (reserve_of l.fn.reserves);
  good : all_to (length l.yielded) (share_ok l.fn.reserves l.fn.caps) ≡ true;
  bound : l.sum ≤ 128 * length l.yielded;
}
