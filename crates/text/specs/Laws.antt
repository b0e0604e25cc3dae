-- Laws of the lines, for the proofs of the functions that write them. Assumes nothing.
use Rattle.std.specs.Prelude.{ℕ, zero, suc, ◌+◌, ◌*◌, ◌/◌, ◌%◌, ◌^◌, ◌≤◌, ◌<◌, ◌≡◌, refl, List, [], ◌∷◌, ◌++◌, length, take, get_or}
use Rattle.std.proofs.Common.{◌∙◌, ap, append_assoc, append-nil, arith, length-append, length-take-le, lt-ltb, le-ltb}
use Rattle.std.proofs.lemmas.Bool.Decides.{nat_tests}
use Rattle.std.proofs.lemmas.List.{length_push, take_more}
use Rattle.text.specs.Lines.{digits, decimal, line, lines_from, text, Puts}

-- ---- digits

-- any bound above the number gives the same
digits_same : (m k n : ℕ) → n < m → n < k → digits m n ≡ digits k n
unfolding digits
digits_same zero k n h j = absurd (omega arith)
digits_same (suc m) zero n h j = absurd (omega arith)
digits_same (suc m) (suc k) n h j =
    let above : 10 ≤ n → digits m (n / 10) ≡ digits k (n / 10) = λ large. digits_same m k (n / 10) (omega arith) (omega arith) in
    grind (arith, nat_tests)

pub decimal_one : (n : ℕ) → n < 10 → decimal n ≡ (48 + n) ∷ []
unfolding decimal digits
decimal_one n h = rw (lt-ltb n 10 h)

pub decimal_more : (n : ℕ) → 10 ≤ n → decimal n ≡ decimal (n / 10) ++ (48 + n % 10) ∷ []
unfolding decimal digits
decimal_more n h =
    rw (le-ltb n 10 h)
    (ap (λ (l : List ℕ). l ++ (48 + n % 10) ∷ []) (digits_same n (suc (n / 10)) (n / 10) (omega arith) (omega arith)))

-- a number below a power of ten has no more digits than the power says
length_decimal : (k n : ℕ) → n < 10 ^ suc k → length (decimal n) ≤ suc k
length_decimal zero n h = omega (arith, ap length (decimal_one n (omega arith)))
length_decimal (suc k) n h =
    let above : 10 ≤ n → length (decimal (n / 10)) ≤ suc k = λ large. length_decimal k (n / 10) (omega arith) in
    let more : 10 ≤ n → length (decimal n) ≡ length (decimal (n / 10)) + 1 = λ large. rw (decimal_more n large, length_push) in
    let one : n < 10 → length (decimal n) ≡ 1 = λ small. rw (decimal_one n small) in
    grind arith

-- ---- lines

-- of two numbers below powers of ten
length_line : (j k a b : ℕ) → a < 10 ^ suc j → b < 10 ^ suc k → length (line a b) ≤ j + k + 4
length_line j k a b h i = omega (arith, length-append {A = ℕ}, length_decimal j a h, length_decimal k b i)

-- one line more
lines_snoc : (i : ℕ) (l : List ℕ) (a : ℕ) → lines_from i (l ++ a ∷ []) ≡ lines_from i l ++ line (i + length l) a
unfolding lines_from
lines_snoc i [] a = let e : i ≡ i + 0 = omega arith in append-nil (line i a) ∙ ap (λ (j : ℕ). line j a) e
lines_snoc i (x ∷ l) a =
    let e : suc i + length l ≡ i + suc (length l) = omega arith in
    rw (lines_snoc (suc i) l a, e, ← append_assoc (line i x) (lines_from (suc i) l) (line (i + suc (length l)) a))

pub lines_more : (l : List ℕ) (i : ℕ) → i < length l → lines_from 0 (take (i + 1) l) ≡ lines_from 0 (take i l) ++ line i (get_or l i 0)
lines_more l i h =
    let count : 0 + length (take i l) ≡ i = omega (arith, length-take-le i l (omega arith)) in
    rw (take_more l i 0 h, lines_snoc 0 (take i l) (get_or l i 0), count)

-- those of bytes
length_lines : (i : ℕ) (l : List ℕ) → ((k : ℕ) → get_or l k 0 < 256) → i + length l ≤ 100000 → length (lines_from i l) ≤ 10 * length l
unfolding lines_from
length_lines i [] bytes h = omega arith
length_lines i (a ∷ l) bytes h =
    omega (arith, length-append {A = ℕ}, length_line 4 2 i a (omega arith) (omega (arith, bytes 0)), length_lines (suc i) l (λ k. bytes (suc k)) (omega arith))

-- the most that a trace comes to: 10,921 lines of 10 bytes, and the last of 22
pub length_text : (l : List ℕ) (granted : ℕ) → ((k : ℕ) → get_or l k 0 < 256) → granted < 4294967296 → length l ≤ 10921 → length (text l granted) ≤ 109232
unfolding text
length_text l granted bytes j h =
    omega (arith, length-append {A = ℕ}, length_lines 0 l bytes (omega arith), length_line 4 9 (length l) granted (omega arith) (omega arith))

-- ---- computed

-- 10921
decimal_largest : decimal 10921 ≡ 49 ∷ 48 ∷ 57 ∷ 50 ∷ 49 ∷ []
unfolding decimal digits
decimal_largest = refl

-- paper 01's example: `0 0`, `1 0`, `done 2 2`
text_example : text (0 ∷ 0 ∷ []) 2 ≡ 48 ∷ 32 ∷ 48 ∷ 10 ∷ 49 ∷ 32 ∷ 48 ∷ 10 ∷ 100 ∷ 111 ∷ 110 ∷ 101 ∷ 32 ∷ 50 ∷ 32 ∷ 50 ∷ 10 ∷ []
unfolding text lines_from decimal digits
text_example = refl

-- ---- two writes, one after the other

pub puts_then : (before : List ℕ) (at : ℕ) (xs ys between after : List ℕ) (mid end : ℕ) → Puts before at xs between mid → Puts between mid ys after end
    → Puts before at (xs ++ ys) after end
puts_then before at xs ys between after mid end p q = (
  q.0 ∙ p.0,
  (
    (λ h. omega (arith, p.0, q.1.0 (omega (arith, p.0, p.1.0 h)))),
    λ h.
        let total = length-append xs ys in
        let first = p.1.1 (omega (arith, total)) in
        let second = q.1.1 (omega (arith, total, p.0, first.0)) in (
          omega (arith, total, first.0, second.0),
          second.1 ∙ ap (λ (l : List ℕ). l ++ ys) first.1 ∙ append_assoc (take at before) xs ys,
        ),
  ),
)
