-- `vcrypto::part_span` meets its contract: one law for each way out.
use Rattle.std.proofs.Common.{arith}
use Rattle.vcrypto.specs.SpanLaws.{empty_located, field_located}
use Rattle.vcrypto.proofs.part_span.Goals as goal

pub returns-then-bytes-eq0 : goal.returns-then-bytes-eq0
returns-then-bytes-eq0 c = empty_located _ _ _ _ c.part-bytes.ensures (omega arith) c.span.ensures

pub returns : goal.returns
returns c = search field_located
