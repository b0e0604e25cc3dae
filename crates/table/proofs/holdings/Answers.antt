-- After each turn every guest's slots so far are counted, and the marks from there on are left.
use mathlib.Core.Path.{refl, ◌∙◌}
use Rattle.std.proofs.Common.{arith}
use lib.ListN.{length-set}
use Rattle.laws.specs.Bits.{from_here, from_next}
use Rattle.laws.specs.Walk.{counted_all, counted_beyond, counted_free, counted_more, counts_le}
use Rattle.model.specs.Session.{slot_of}
use Rattle.table.proofs.holdings.Goals as goal
use Rattle.table.proofs.holdings.Goals.{then-is_held+then-slot-lt8, else-is_held, else-is_held-via-then-is_held+else-slot-lt8, else-is_held-via-else-is_held}

pub overflow_add-held : goal.overflow_add-held
overflow_add-held c = let turn = c.loop-slot in
    omega (arith, c.from.ensures, counts_le c.args.t.now turn.held turn.slot-index c.from.result turn.invariant.1 (omega (arith, c.from.ensures)))

pub loop-slot-preserved : goal.loop-slot-preserved
unfolding slot_of
loop-slot-preserved c = let turn = c.loop-slot in
    let t = c.args.t.now in
    let n = c.occupied-marks.ensures.slots in
    let i = turn.slot-index in
    let held = c.is_held.ensures ∙ from_here _ _ _ turn.invariant.2 in
    let rest = from_next _ _ _ _ turn.invariant.2 c.moved_down-marks.ensures in
    elim c.if-is_held.branch [
      | then-is_held+then-slot-lt8 w ↦ rw (w.held-is, w.from.ensures) (length-set turn.held _ _ ∙ turn.invariant.0, counted_more t n turn.held i _ _ (omega arith) turn.invariant.1 held refl w.if-is_held.true w.if-slot-lt8.true turn.invariant.0, rest)
      | else-is_held w ↦ elim w.else-is_held.branch [
        | else-is_held-via-then-is_held+else-slot-lt8 v ↦ rw w.held-is (turn.invariant.0, counted_beyond t n turn.held i _ _ (omega arith) turn.invariant.1 held refl v.if-slot-lt8.false, rest)
        | else-is_held-via-else-is_held v ↦ rw w.held-is (turn.invariant.0, counted_free t n turn.held i _ _ (omega arith) turn.invariant.1 held refl v.if-is_held.false, rest)
      ]
    ]

pub returns : goal.returns
returns c = counted_all c.args.t.now c.occupied-marks.ensures.slots c.loop-slot.held c.loop-slot.slot-index (omega arith) c.loop-slot.invariant.1
