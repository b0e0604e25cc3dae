-- The guests so far have their shares.
use Rattle.std.proofs.Common.{arith}
use Rattle.std.proofs.lemmas.List.FromFn.{fill_by_all}
use Rattle.model.specs.Session.{new_guest}
use Rattle.table.proofs.fresh_guests.Goals as goal

pub returns : goal.returns
returns c = fill_by_all _ _ 8 (new_guest 0 0) c.loop-i.invariant.0 (λ g h. c.loop-i.invariant.1 g (omega arith))
