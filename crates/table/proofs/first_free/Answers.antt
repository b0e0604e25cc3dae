-- Where a guest has room there is a free slot.
use mathlib.Core.Path.{sym, ◌∙◌}
use Rattle.laws.specs.Slots.{free_marks}
use Rattle.laws.specs.Walk.{free_found}
use Rattle.table.proofs.first_free.Goals as goal

pub returns-clause-room : goal.returns-clause-room
returns-clause-room c g h = let marks = c.occupied.ensures in
    let place = c.first_free.ensures.place ∙ rw marks.value (sym (free_marks c.args.t.now marks.slots)) in
    free_found c.args.t.now marks.slots g h _ place
