-- The sum so far is that of the guests passed.
use mathlib.Core.Path.{sym, ◌∙◌}
use Rattle.std.proofs.Common.{arith}
use Rattle.lists.specs.Sum.{sum_to}
use Rattle.laws.specs.Walk.{others_more, others_skip}
use Rattle.model.specs.Session.{new_guest}
use Rattle.table.specs.Narrow.{lacks}
use Rattle.table.proofs.owed.Goals as goal
use Rattle.table.proofs.owed.Goals.{then-i-from, else-i-from}

pub loop-i-init : goal.loop-i-init
unfolding sum_to
loop-i-init c = omega arith

pub loop-i-preserved : goal.loop-i-preserved
unfolding new_guest
loop-i-preserved c =
    let a = c.args in
    let i = c.loop-i.i in
    let f = lacks a.guests.now a.held.now in
    elim c.if-i-from.branch [
      | then-i-from w ↦ omega (arith, w.unmet-sum.ensures.value, w.unmet-sum.ensures.bounded, w.sum-is, others_more a.guest i f (λ e. w.if-i-from.true (e ∙ sym c.from.ensures)))
      | else-i-from w ↦ omega (arith, w.sum-is, others_skip a.guest i f (w.if-i-from.false ∙ c.from.ensures))
    ]
