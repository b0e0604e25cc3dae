-- `wire::le32` meets its contract. Assumes nothing.
use Rattle.std.proofs.Common.{rules}
use Rattle.wire.specs.Read.{number_32}
use Rattle.wire.proofs.le32.Goals as goal

pub returns : goal.returns
returns c = search (rules, number_32)
