-- `replay::run` meets its contract. Assumes nothing.
use Rattle.std.proofs.Common.{◌≡◌, ◌≤◌, ◌<◌, ◌+◌, ◌-◌, ◌∙◌, sym, ap, ◌++◌, length, refl, arith, rules, append_assoc, take, take_at, take_all, length-take-le, Some}
use Rattle.std.proofs.lemmas.List.{take_more_set}
use Rattle.trace.specs.Replay.{trailer, records_of}
use Rattle.trace.specs.Laws.{opened_good, walks_more}
use Rattle.tally.specs.Count.{tally_of}
use Rattle.tally.specs.Laws.{tally_more}
use Rattle.replay.specs.Laws.{answers_step, answers_end}
use Rattle.replay.proofs.run.Goals as goal

pub slice_bounds-slot-items-end : goal.slice_bounds-slot-items-end
slice_bounds-slot-items-end c =
    let good = opened_good _ _ c.in_ok-records.ensures in
    let few : c.in_ok-records.records.count ≤ 10921 = grind arith in
    search rules

pub loop-slot-init : goal.loop-slot-init
unfolding tally_of
loop-slot-init c =
    let good = opened_good _ _ c.in_ok-records.ensures in
    let z : (records_of c.args.s.now).count - 0 ≡ (records_of c.args.s.now).count = omega arith in
    record {
      walk = rw z (grind arith);
      store = omega arith;
      answers = rw z (grind arith);
      tally = c.empty-tally.ensures;
    }

pub overflow_add-at-in-loop-slot : goal.overflow_add-at-in-loop-slot
overflow_add-at-in-loop-slot c =
    let loop = c.loop-slot in
    let s = c.args.s.now in
    let good = opened_good _ _ c.in_ok-records.ensures in
    let n = (records_of s).count in
    let after = loop.at + (6 + c.from.result) in
    let more = walks_more s (trailer s) loop.at n loop.slot-index after _ c.record_at-r.ensures (grind arith) (omega arith) loop.invariant.walk in
    omega arith

pub loop-slot-preserved : goal.loop-slot-preserved
loop-slot-preserved c =
    let loop = c.loop-slot in
    let inv = loop.invariant in
    let s = c.args.s.now in
    let n = (records_of s).count in
    let i = loop.slot-index in
    let after = loop.at + (6 + c.from.result) in
    let here = c.record_at-r.ensures in
    let good = opened_good _ _ c.in_ok-records.ensures in
    let more : i < n = grind arith in
    let did = c.answer-a.ensures in
    let step = answers_step loop.t _ loop.store _ s _ loop.at n i after _ _ here more (omega arith) c.body.ensures (did.answer, (did.table, did.store)) in
    let room : i < length loop.slot-items = omega arith in
    record {
      walk = (walks_more s (trailer s) loop.at n i after _ here more (omega arith) inv.walk).1;
      store = omega arith;
      answers = rw (take_more_set, append_assoc) (ap (λ l. take i loop.slot-items ++ l) (sym step) ∙ inv.answers);
      tally = rw take_more_set (c.count_copy-tally.ensures ∙ tally_more _ _ _ inv.tally (omega (arith, length-take-le i loop.slot-items (omega arith))));
    }

pub returns : goal.returns
returns c =
    let loop = c.loop-slot in
    let good = opened_good _ _ c.in_ok-records.ensures in
    let n = (records_of c.args.s.now).count in
    let all = answers_end _ _ loop.slot-items loop.at n loop.slot-index good.0 (grind arith) (omega arith) loop.invariant.answers in
    record {
      tally = rw good.0 (ap Some (loop.invariant.tally ∙ ap tally_of (take_all _ _ (omega arith) ∙ all)));
      answers = rw (← all) (take_at _ _ _ refl);
      few = rw (← all) (grind arith);
    }
