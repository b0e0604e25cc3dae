-- A slot below 64 is a bit of the first word, and one from 64 on of the second.
use mathlib.Core.Path.{sym, ◌∙◌}
use Rattle.laws.specs.Bits.{mark_low, mark_high}
use Rattle.occupancy.proofs.is_held.Goals as goal

pub returns-then-slot-lt64 : goal.returns-then-slot-lt64
returns-then-slot-lt64 c = c.has_bit.ensures ∙ sym (mark_low _ _ c.if-slot-lt64.true)

pub returns-else-slot-lt64 : goal.returns-else-slot-lt64
returns-else-slot-lt64 c = c.has_bit-else-slot-lt64.ensures ∙ sym (mark_high _ _ c.if-slot-lt64.false)
