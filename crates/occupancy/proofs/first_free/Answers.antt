-- The first clear bit of the first word, or else that of the second.
use mathlib.Core.Path.{◌∙◌}
use Rattle.std.proofs.Common.{arith}
use Rattle.laws.specs.Bits.{clear_low, clear_high}
use Rattle.occupancy.proofs.first_free.Goals as goal

pub returns-in-Some-clause-place : goal.returns-in-Some-clause-place
returns-in-Some-clause-place c = c.in-Some.ensures.place ∙ clear_low c.args.o (omega (arith, c.in-Some.ensures.place, c.in-Some.ensures.within))

pub returns-in_err-i-clause-place : goal.returns-in_err-i-clause-place
returns-in_err-i-clause-place c =
    rw c.from_residual.ensures (omega (arith, c.in_default.ensures.place, c.in_err-i.ensures.place, clear_high c.args.o))

pub returns-clause-place : goal.returns-clause-place
returns-clause-place c = omega (arith, c.in_default.ensures.place, c.in_ok-i.ensures.place, clear_high c.args.o)
