-- `wire::le64` meets its contract. Assumes nothing.
use Rattle.std.proofs.Common.{rules}
use Rattle.wire.specs.Read.{number_64}
use Rattle.wire.proofs.le64.Goals as goal

pub returns : goal.returns
returns c = search (rules, number_64)
