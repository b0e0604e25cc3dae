-- `text::put_lines` meets its contract. Assumes nothing.
use Rattle.std.proofs.Common.{take}
use Rattle.text.specs.Lines.{lines_from, Puts}
use Rattle.text.proofs.put_lines.Given as goal

abbrev pub invariant-loop-index : goal.invariant-loop-index
invariant-loop-index l = Puts l.initial.out 0 (lines_from 0 (take l.index l.answers)) l.out l.at
