-- Paper 01, "Replay": "Else one line per record, index from 0 and answer, then `done`, the records and the answers 0". As ASCII bytes. [13.5]
use Rattle.std.specs.Prelude.{ℕ, zero, suc, ◌+◌, ◌/◌, ◌%◌, ◌≤◌, ◌≡◌, cond, List, [], ◌∷◌, ◌++◌, ltb, length, take}

-- the decimal digits of n, the highest first, where there are at most `most`
unfoldable pub digits : ℕ → ℕ → List ℕ
digits zero n = []
digits (suc most) n =
    let above = digits most (n / 10) in cond (ltb n 10) ((48 + n) ∷ []) (above ++ (48 + n % 10) ∷ [])

-- n has at most n + 1 digits
unfoldable pub decimal : ℕ → List ℕ
decimal n = digits (suc n) n

-- two numbers on a line
abbrev pub line : ℕ → ℕ → List ℕ
line a b = decimal a ++ (32 ∷ (decimal b ++ (10 ∷ [])))

-- "one line per record, index from 0 and answer": from i on [13.5]
unfoldable pub lines_from : ℕ → List ℕ → List ℕ
lines_from i [] = []
lines_from i (a ∷ answers) = line i a ++ lines_from (suc i) answers

-- `done` and a space
abbrev pub done : List ℕ
done = 100 ∷ 111 ∷ 110 ∷ 101 ∷ 32 ∷ []

-- all lines: "then `done`, the records and the answers 0" [13.5]
unfoldable pub text : List ℕ → ℕ → List ℕ
text answers granted = lines_from 0 answers ++ (done ++ line (length answers) granted)

-- ---- as the code writes them

-- `bytes` written into `before` from `at` on leave `after` and end at `end`: all of them where there is room, and never past the end of it
abbrev pub Puts : List ℕ → ℕ → List ℕ → List ℕ → ℕ → Type 0
Puts before at bytes after end =
    (length after ≡ length before)
    × ((at ≤ length before → end ≤ length before)
    × (at + length bytes ≤ length before → (end ≡ at + length bytes) × (take end after ≡ take at before ++ bytes)))
