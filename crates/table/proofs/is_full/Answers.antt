-- A guest above 7 has a cap of 0. Held slots are at most 128, so the sum fits; the rest is the callees' results.
use Prim.Native.Nat.{ℕ, ◌<◌}
use mathlib.Core.Path.{◌≡◌, refl, sym, ◌∙◌}
use mathlib.Core.Bool.{true}
use lib.Dec.{leb}
use Rattle.std.proofs.Common.{arith}
use borrow.Author.Tests.{le-leb}
use Rattle.laws.specs.Slots.{total_marks}
use Rattle.laws.specs.Walk.{held_or_free, none_free, owed_by}
use Rattle.model.specs.declared.Table.{Table}
use Rattle.model.specs.Session.{new_guest, guest_at}
use Rattle.model.specs.View.{holds, no_room, full}
use Rattle.table.proofs.is_full.Goals as goal

absent : (t : Table) (g : ℕ) → new_guest 0 0 ≡ guest_at t g → true ≡ full t g
unfolding full no_room new_guest
absent t g e =
    let cap : leb (guest_at t g).cap (holds t g) ≡ true = rw (← e) (le-leb 0 (holds t g) (omega arith)) in
    rw cap

pub returns-in_default : goal.returns-in_default
returns-in_default c = let read = c.get.ensures.lookup.4 (omega arith) (new_guest 0 0) in
    absent c.args.t.now c.args.guest (rw (← c.in_default.ensures, c.from.ensures) at read)

pub overflow_add-result : goal.overflow_add-result
overflow_add-result c = let t = c.args.t.now in
    let marks = c.occupied.ensures in
    let all = rw marks.value at c.held_count-all.ensures ∙ sym (total_marks t marks.slots) in
    omega (arith, all, held_or_free t marks.slots)

pub returns : goal.returns
unfolding full no_room
returns c = let t = c.args.t.now in
    let marks = c.occupied.ensures in
    let guest = rw (← c.in-Some.ensures, c.from.ensures) at (c.get.ensures.lookup.4 (omega arith) (new_guest 0 0)) in
    let counts = c.holdings-counts in
    let inside : c.args.guest < 8 = grind arith in
    let held = counts.ensures c.args.guest inside in
    let all = (rw marks.value at c.held_count-all.ensures) ∙ sym (total_marks t marks.slots) in
    let owed = c.owed-others.ensures.value ∙ owed_by t counts.result c.args.guest counts.ensures in
    rw (guest, c.from-2.ensures, held, all, owed, none_free t marks.slots) refl
