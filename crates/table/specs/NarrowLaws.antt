-- A session whose fields fit a byte is kept whole.
-- Assumes nothing.
use Rattle.std.specs.Prelude.{◌≡◌}
use Rattle.std.proofs.Common.{mod-eq_of_lt}
use Rattle.model.specs.declared.Session.{Session}
use Rattle.laws.specs.Bounds.{Small}
use Rattle.table.specs.Narrow.{low}

pub low_small : (x : Session) → Small x → low x ≡ x
unfolding low
low_small x h i = record {
  service = mod-eq_of_lt h.service i;
  algo = mod-eq_of_lt h.algo i;
  direction = mod-eq_of_lt h.direction i;
  keylen = mod-eq_of_lt h.keylen i;
  result = mod-eq_of_lt h.result i;
  aad = x.aad;
}
