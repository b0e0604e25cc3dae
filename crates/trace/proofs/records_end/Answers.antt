-- `trace::records_end` meets its contract: what is left of the walk is the walk. Assumes nothing.
use Rattle.std.proofs.Common.{◌+◌, refl, arith}
use Rattle.trace.specs.Laws.{walks_step}
use Rattle.trace.proofs.records_end.Goals as goal

pub returns-then-not-record_fits : goal.returns-then-not-record_fits
returns-then-not-record_fits c =
    let loop = c.loop in
    let step = walks_step c.args.s.now c.args.end loop.at c.args.x.count loop.counter _ _ c.record_at-r.ensures (omega arith) refl in
    grind arith

pub loop-preserved : goal.loop-preserved
loop-preserved c =
    let loop = c.loop in
    let after = loop.at + (6 + c.from.result) in
    let step = walks_step c.args.s.now c.args.end loop.at c.args.x.count loop.counter after _ c.record_at-r.ensures (omega arith) (omega arith) in
    grind arith
