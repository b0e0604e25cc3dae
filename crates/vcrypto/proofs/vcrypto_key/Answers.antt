-- `vcrypto::vcrypto_key` meets its contract: one law for each way out.
use Rattle.vcrypto.specs.SpanLaws.{key_located, no_key_located}
use Rattle.vcrypto.proofs.vcrypto_key.Goals as goal

pub returns-in-Some : goal.returns-in-Some
returns-in-Some c = let found = c.in-Some.ensures in
    key_located _ _ _ _ _ _ c.key-key.ensures _ _ _ found.at found.within found.alive found.session (c.key_place.ensures _) c.span.ensures

pub returns-in-None : goal.returns-in-None
returns-in-None c = no_key_located _ _ _ _ _ _ c.key-key.ensures c.in-None.ensures.alive c.span-in-None.ensures
