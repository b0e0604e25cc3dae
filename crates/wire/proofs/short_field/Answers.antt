-- `wire::short_field` meets its contract. Assumes nothing.
use Rattle.std.proofs.Common.{arith}
use Rattle.std.proofs.lemmas.Grind.{common_steps}
use Rattle.wire.specs.Read.{field_cut, field_past}
use Rattle.wire.proofs.short_field.Goals as goal

pub returns-in-Some : goal.returns-in-Some
returns-in-Some g c = grind (arith, common_steps, field_cut)

pub returns-in_default : goal.returns-in_default
returns-in_default g c = grind (arith, common_steps, field_past)
