-- `vcrypto::span` meets its contract.
use Rattle.laws.specs.Chain.{choices}
use Rattle.vcrypto.specs.Span.{span_of}
use Rattle.vcrypto.proofs.span.Goals as goal

pub returns-then-size-eq0 : goal.returns-then-size-eq0
unfolding span_of
returns-then-size-eq0 c = search choices

pub returns : goal.returns
unfolding span_of
returns c = search choices
