-- The complement's trailing zeros are the word's low set bits.
use mathlib.Core.Path.{sym, ◌∙◌}
use Rattle.laws.specs.Bits.{bits_first}
use Rattle.occupancy.proofs.first_clear.Goals as goal

pub returns-in-64-clause-place : goal.returns-in-64-clause-place
returns-in-64-clause-place c = sym c.in-64.is ∙ bits_first 64 c.args.w c.ranges.w.fits

pub returns-in_default-clause-place : goal.returns-in_default-clause-place
returns-in_default-clause-place c = bits_first 64 c.args.w c.ranges.w.fits
