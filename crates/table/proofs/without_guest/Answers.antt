-- After each turn the guest's slots so far are freed.
use mathlib.Core.Path.{◌∙◌}
use Prim.Native.Nat.{◌<◌, ◌^◌}
use Rattle.std.proofs.Common.{arith, rules}
use Rattle.std.proofs.lemmas.List.{set-get_or}
use Rattle.laws.specs.Walk.{freed_first, freed_last, freed_one, freed_other}
use Rattle.model.specs.declared.Table.{Table}
use Rattle.model.specs.Session.{slot_of}
use Rattle.table.proofs.without_guest.Goals as goal
use Rattle.table.proofs.without_guest.Goals.{then-owned_by, else-owned_by}

pub loop-at-init : goal.loop-at-init
loop-at-init c = let marks = c.occupied-marks.ensures in
    let t = c.args.t.now in
    let low : t.occupied.low < 2 ^ 64 = search rules in
    let high : t.occupied.high < 2 ^ 64 = search rules in
    rw marks.value (freed_first t marks.slots c.args.guest low high)

pub loop-at-preserved : goal.loop-at-preserved
unfolding slot_of
loop-at-preserved c = let turn = c.loop-at in
    let t = c.args.t.now in
    let n = c.occupied-marks.ensures.slots in
    let u : Table = record { config = t.config; occupied = turn.marks; slots = turn.slot-items; guests = t.guests } in
    elim c.if-owned_by.branch [
      | then-owned_by w ↦ freed_one t n c.args.guest u turn.at _ _ turn.invariant c.is_held.ensures c.owned_by.ensures _ _ _ (w.marks-is ∙ w.with_mark-marks.ensures) w.slot-items-is w.free_slot.ensures w.if-owned_by.true
      | else-owned_by w ↦ freed_other t n c.args.guest u turn.at _ _ turn.invariant c.is_held.ensures c.owned_by.ensures _ _ w.marks-is (w.slot-items-is ∙ set-get_or turn.slot-items turn.at _) w.if-owned_by.false
    ]

pub returns : goal.returns
returns c = c.loop-at.invariant ∙ freed_last c.args.t.now c.occupied-marks.ensures.slots _ _ (omega arith)
