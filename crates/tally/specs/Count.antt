-- Paper 01, "Replay": "`done`, the records and the answers 0, from a running tally that is changed in place". [13.5, 13.8]
use Rattle.std.specs.Prelude.{ℕ, ◌+◌, cond, List, ltb, eqb, length}
use Rattle.lists.specs.Seek.{count}
use Rattle.model.specs.Answer.{ok}
use Rattle.tally.specs.declared.Tally.{Tally}

-- the tally of answers
unfoldable pub tally_of : List ℕ → Tally
tally_of l = record { records = length l; granted = count (λ answer. eqb answer ok) l }

-- ---- as the code counts, in 32 bits

-- one more; the largest number stays
abbrev pub increment : ℕ → ℕ
increment n = cond (ltb n 4294967295) (n + 1) n

abbrev pub none : Tally
none = record { records = 0; granted = 0 }

-- the tally after one more answer
abbrev pub after_answer : Tally → ℕ → Tally
after_answer t answer =
    record { records = increment t.records; granted = cond (eqb answer ok) (increment t.granted) t.granted }
