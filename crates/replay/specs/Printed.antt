-- Paper 01, "Replay": what is printed of a trace. [13]
use Rattle.std.specs.Prelude.{ℕ, cond, List, [], ◌∷◌, Option, None, Some}
use Rattle.trace.specs.Replay.{good_trace, shown}
use Rattle.tally.specs.declared.Tally.{Tally}
use Rattle.tally.specs.Count.{tally_of}
use Rattle.text.specs.Lines.{text}

-- "prints a single line `bad trace`" [13.4]
abbrev pub bad_trace : List ℕ
bad_trace = 98 ∷ 97 ∷ 100 ∷ 32 ∷ 116 ∷ 114 ∷ 97 ∷ 99 ∷ 101 ∷ 10 ∷ []

-- the tally of the answers that are shown; a bad trace has none
abbrev pub tally_shown : List ℕ → Option Tally
tally_shown s = cond (good_trace s) (Some (tally_of (shown s))) None

-- "Else one line per record, index from 0 and answer, then `done`, the records and the answers 0" [13.5]
unfoldable pub printed : List ℕ → List ℕ
printed s = cond (good_trace s) (text (shown s) (tally_of (shown s)).granted) bad_trace
