-- A fact of the slots that an act fills.
use Rattle.std.specs.Prelude.{ℕ}
use Rattle.history.specs.Cells.{Cell}
use Rattle.model.specs.Act.{Act, refuse, pass, attach, create, destroy}
use Rattle.history.specs.Apply.{cell_of}

-- the slots that an act fills have the fact
abbrev pub Fills : (Cell → Type 0) → Act → Type 0
Fills P (refuse n) = Unit {0}
Fills P pass = Unit {0}
Fills P attach = Unit {0}
Fills P (create e) = (g n : ℕ) → P (cell_of g n e)
Fills P (destroy n) = Unit {0}
