-- After each turn the guest's areas so far are zeroed.
use mathlib.Core.Path.{◌≡◌, sym, ◌∙◌}
use lib.ListN.{length}
use Rattle.std.proofs.Common.{arith, rules}
use Rattle.model.specs.Session.{slot_of}
use Rattle.laws.specs.Chain.{chosen, other}
use Rattle.keystore.specs.StoredLaws.{clear_none, clear_more, clear_done}
use Rattle.keystore.proofs.clear_guest.Goals as goal
use Rattle.keystore.proofs.clear_guest.Goals.{then-owned_by, else-owned_by}

pub loop-i-init : goal.loop-i-init
loop-i-init c = let slots : length c.args.t.now.slots ≡ 128 = search rules in
    clear_none c.args.t.now slots c.args.guest _

pub loop-i-preserved : goal.loop-i-preserved
unfolding slot_of
loop-i-preserved c = let turn = c.loop-i in
    let slots : length c.args.t.now.slots ≡ 128 = search rules in
    let more = clear_more c.args.t.now slots c.args.guest c.args.store.now turn.i c.is_held.result turn.store in
    elim c.if-owned_by.branch [
      | then-owned_by w ↦ more _ (omega arith) turn.auto.store turn.invariant c.is_held.ensures (chosen _ _ _ _ (sym c.owned_by.ensures ∙ w.if-owned_by.true) (w.store-is ∙ w.clear_area.ensures))
      | else-owned_by w ↦ more _ (omega arith) turn.auto.store turn.invariant c.is_held.ensures (other _ _ _ _ (sym c.owned_by.ensures ∙ w.if-owned_by.false) w.store-is)
    ]

pub returns : goal.returns
returns c = let slots : length c.args.t.now.slots ≡ 128 = search rules in
    clear_done c.args.t.now slots c.args.guest _ c.loop-i.i _ (omega arith) c.loop-i.invariant
