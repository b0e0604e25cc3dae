-- What is left of the search from a place on, plus the place, is the whole search.
use Prim.Native.Nat.{ℕ}
use mathlib.Core.Bool.{Bool, true}
use mathlib.Core.Path.{◌≡◌, ◌∙◌}
use Rattle.std.proofs.Common.{arith}
use Rattle.laws.specs.Walk.{fields_of, none_found, one_found, slots_searched, slots_here, slots_later}
use Rattle.model.specs.declared.Guest.{Guest}
use Rattle.model.specs.declared.Occupied.{Occupied}
use Rattle.model.specs.declared.Table.{Table}
use Rattle.model.specs.Session.{place_of, marked, slot_of, guest_at}
use Rattle.model.specs.View.{live, live_at}
use Rattle.table.specs.Search.{was_given, claimed}
use Rattle.table.specs.SearchLaws.{live_given, live_never}
use Rattle.table.proofs.lookup.Goals as goal

pub returns-then-not-was_given : goal.returns-then-not-was_given
returns-then-not-was_given c = let a = c.args in
    let n = c.occupied-marks.ensures.slots in
    let at = live_never a.t.now a.guest a.number _ _ c.guest_at.ensures c.was_given.ensures n c.if-not-was_given.true in
    let e = none_found a.t.now n a.guest a.number at in
    record { at = at; alive = e.0; session = e.1; within = tt }

-- slot i is live where the code finds so
module _ (t : Table) (g n : ℕ) (marks : Occupied) (m : marks ≡ t.occupied) (r : Guest) (e : r ≡ guest_at t g) (w : Bool) (f : w ≡ was_given r n) where
  met : w ≡ true → (i : ℕ) (b : Bool) → b ≡ claimed t.config g n (place_of (marked marks i) (fields_of t i))
      → b ≡ live t g n (place_of (marked t.occupied i) (fields_of t i))
  met y i b h = live_given t g n r w e f y (place_of (marked t.occupied i) (fields_of t i)) b (rw m at h)

pub returns-then-is_live : goal.returns-then-is_live
unfolding slot_of
returns-then-is_live c = let a = c.args in
    let t = a.t.now in
    let i = c.loop-at.at in
    let marks = c.occupied-marks.ensures in
    let live_here = met t a.guest a.number _ marks.value _ c.guest_at.ensures _ c.was_given.ensures c.if-not-was_given.false i _ c.is_live.ensures in
    let here = slots_here t marks.slots (live t a.guest a.number) i _ (omega arith) live_here c.if-is_live.true in
    let at : i ≡ live_at t a.guest a.number = omega arith in
    let e = one_found t marks.slots a.guest a.number i (omega arith) at in
    record { at = at; alive = e.0; session = c.from-session.ensures ∙ e.1; within = omega arith }

pub loop-at-preserved : goal.loop-at-preserved
unfolding slot_of
loop-at-preserved c = let a = c.args in
    let t = a.t.now in
    let i = c.loop-at.at in
    let marks = c.occupied-marks.ensures in
    let live_here = met t a.guest a.number _ marks.value _ c.guest_at.ensures _ c.was_given.ensures c.if-not-was_given.false i _ c.is_live.ensures in
    omega (arith, slots_later t marks.slots (live t a.guest a.number) i _ (omega arith) live_here c.if-is_live.false)

pub returns : goal.returns
returns c = let a = c.args in
    let n = c.occupied-marks.ensures.slots in
    let end = slots_searched a.t.now n (live a.t.now a.guest a.number) c.loop-at.at (omega arith) in
    let at : 128 ≡ live_at a.t.now a.guest a.number = omega arith in
    let e = none_found a.t.now n a.guest a.number at in
    record { at = at; alive = e.0; session = e.1; within = tt }
