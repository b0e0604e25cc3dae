-- Guest 0's requests in order, each beside the length of its readable bytes and its answer. A data request may be too long to be written out: its answer
-- depends on its first bytes, and of the others on how many there are.
-- Assumes nothing.
use Rattle.std.specs.Prelude.{◌≡◌, refl, ◌⊎◌, Bool, true, ◌&&◌, List, [], ◌∷◌, ◌++◌, ℕ, ◌+◌, eqb, length}
use Rattle.std.proofs.Common.{sym, ap, ◌∙◌, inl, inr, length-append}
use Rattle.std.proofs.Math.Path.{ap₂}
use Rattle.lists.specs.Test.{same}
use Rattle.model.specs.Answer.{ok, first_fail}
use Rattle.model.specs.Session.{World, guest_at}
use Rattle.model.specs.View.{present, find, is_live, session_in}
use Rattle.model.specs.Act.{table_after, store_after}
use Rattle.model.specs.Control.{opcode}
use Rattle.model.specs.Data.{number, flag, lengths, plain_data, operation_checks, job_checks}
use Rattle.model.specs.Device.{Request, Attach, Control, Admit, Part, KeyAnswer, Key, Finish, checks_of, outcome, checks, reply, next}
use Rattle.laws.specs.Effect.{granted_next, refused_next}

pub data Row : Type 0 where
  -- a request; the length of its readable bytes, and its answer
  row : Request → ℕ → ℕ → Row
  -- the first bytes of a data request, how many more it has, and how many writable ones; the same two numbers
  long : List ℕ → ℕ → ℕ → ℕ → ℕ → Row

abbrev pub Script : Type 0
Script = List Row

-- the length of a request's readable bytes
abbrev readable : Request → ℕ
readable (Attach word) = 0
readable (Control r w) = length r
readable (Admit r w) = length r
readable (Part x r w) = length r
readable (KeyAnswer n) = 0
readable (Key n) = 0
readable (Finish op verdict w) = 0

-- the request has this length and this answer, and what comes after it is right
abbrev rightly : (World → Bool) → World → Request → ℕ → ℕ → Bool
rightly rest w q n a = eqb (readable q) n && eqb (reply w 0 q).answer a && rest (next w 0 q)

-- every row is right, each on what the ones before left; `bytes n` are n bytes, behind the first ones of a long request or its writable ones
abbrev pub right : (ℕ → List ℕ) → World → Script → Bool
right bytes w [] = true
right bytes w (row q n a ∷ s) = rightly (λ v. right bytes v s) w q n a
right bytes w (long first more room n a ∷ s) = rightly (λ v. right bytes v s) w (Admit (first ++ bytes more) (bytes room)) n a

-- ---- by first bytes and lengths

-- the answer to a data request r of n readable and m writable bytes
abbrev answer_by : World → List ℕ → ℕ → ℕ → ℕ
answer_by w r n m =
    let k = w.table.config in
    let e = find w 0 (number r) in
    first_fail (
    operation_checks k (present 0 (guest_at w.table 0)) (opcode r) (flag r) n m
    ++ job_checks k (is_live e) (session_in e) (opcode r) (plain_data r) (lengths r) n m
    )

abbrev pub judged : (ℕ → List ℕ) → World → Script → Bool
judged bytes w [] = true
judged bytes w (row q n a ∷ s) = rightly (λ v. judged bytes v s) w q n a
judged bytes w (long first more room n a ∷ s) =
    eqb (length first + more) n && eqb (answer_by w (first ++ bytes more) (length first + more) room) a && judged bytes w s

-- a data request changes nothing
admit_next : (w : World) (r b : List ℕ) → next w 0 (Admit r b) ≡ w
unfolding table_after store_after
admit_next w r b = go (same (first_fail (checks w 0 (Admit r b))) ok)
  where
    n : ℕ
    n = first_fail (checks w 0 (Admit r b))

    go : (n ≡ ok) ⊎ (n ≡ ok → ⊥) → next w 0 (Admit r b) ≡ w
    go (inl e) = sym (granted_next w 0 (Admit r b) n refl e)
    go (inr d) = sym (refused_next w 0 (Admit r b) n refl d)

module _ (bytes : ℕ → List ℕ) (sized : (n : ℕ) → length (bytes n) ≡ n) where
  sized_length : (first : List ℕ) (more : ℕ) → length (first ++ bytes more) ≡ length first + more
  sized_length first more = length-append first (bytes more) ∙ ap (λ (k : ℕ). length first + k) (sized more)

  sized_answer : (w : World) (first : List ℕ) (more room : ℕ)
      → (reply w 0 (Admit (first ++ bytes more) (bytes room))).answer ≡ answer_by w (first ++ bytes more) (length first + more) room
  unfolding reply outcome checks checks_of
  sized_answer w first more room = ap₂ (answer_by w (first ++ bytes more)) (sized_length first more) (sized room)

  by_lengths : (w : World) (s : Script) → right bytes w s ≡ judged bytes w s
  by_lengths w [] = refl
  by_lengths w (row q n a ∷ s) = ap (λ (b : Bool). eqb (readable q) n && eqb (reply w 0 q).answer a && b) (by_lengths (next w 0 q) s)
  by_lengths w (long first more room n a ∷ s) =
      rw (sized_length first more, sized_answer w first more room, admit_next w (first ++ bytes more) (bytes room), by_lengths w s)

  -- a test of scripts that holds of their first bytes and lengths holds of them
  pub from_lengths : (t : (World → Script → Bool) → Bool) → t (judged bytes) ≡ true → t (right bytes) ≡ true
  from_lengths t e = ap t (λ i w s. by_lengths w s i) ∙ e
