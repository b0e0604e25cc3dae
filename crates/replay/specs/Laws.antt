-- Laws of replay's calls, one for each way out of the functions that make them, and of the answers so far. Assumes nothing.
use Prim.Native.Nat.{ℕ, suc, min, ◌+◌, ◌-◌, ◌≤◌, ◌<◌}
use Rattle.std.specs.Prelude.{◌≡◌, ◌⊎◌, replicate}
use Rattle.std.proofs.Math.Path.{refl, sym, ap}
use Rattle.std.proofs.Common.{inl, inr, take_all}
use Rattle.std.proofs.Math.Bool.{true, false}
use mathlib.Core.List.{List, ◌∷◌, ◌++◌, append-nil}
use native.Mathlib.Omega.{arith}
use Rattle.std.proofs.lemmas.Bool.{cases_lt}
use Rattle.std.proofs.lemmas.List.{length-replicate, take_min}
use Rattle.std.proofs.Math.ListN.{length, take}
use Rattle.std.proofs.Math.Seq.{length-take-le}
use borrow.Author.Tests.{le-leb, lt-leb}
use Rattle.lists.specs.Test.{same}
use Rattle.model.specs.declared.Table.{Table}
use Rattle.model.specs.Bytes.{part}
use Rattle.model.specs.Answer.{ok, first_fail}
use Rattle.model.specs.Session.{World}
use Rattle.model.specs.Act.{table_after, store_after}
use Rattle.model.specs.Device.{Request, Admit, checks, reply, next, world, bare}
use Rattle.laws.specs.Effect.{granted_next, refused_next, bare_admit}
use Rattle.trace.specs.declared.Record.{Record}
use Rattle.trace.specs.Replay.{record_at, good_trace, request_of, blank, call_at, calls_from, calls_of, started, answers_from, shown}
use Rattle.replay.specs.Printed.{printed}

-- an answer, a table and a key store are those of a call
abbrev pub Did : World → ℕ → Request → ℕ → Table → List ℕ → Type 0
Did w g q a t b = (a ≡ (reply w g q).answer) × ((t ≡ (next w g q).table) × (b ≡ (next w g q).store))

-- ---- a data record's call

-- it leaves table and key store as they are
pub admit_keeps : (w : World) (g : ℕ) (r x : List ℕ) → next w g (Admit r x) ≡ w
unfolding table_after store_after
admit_keeps w g r x = go (same (first_fail (checks w g (Admit r x))) ok)
  where
    go : (first_fail (checks w g (Admit r x)) ≡ ok) ⊎ (first_fail (checks w g (Admit r x)) ≡ ok → ⊥) → next w g (Admit r x) ≡ w
    go (inl z) = sym (granted_next w g (Admit r x) _ refl z)
    go (inr d) = sym (refused_next w g (Admit r x) _ refl d)

-- and is answered by the table alone
pub admit_bare : (t : Table) (s : List ℕ) (g : ℕ) (r x : List ℕ) → (reply (world t s) g (Admit r x)).answer ≡ (reply (bare t) g (Admit r x)).answer
admit_bare t s g r x = ap (λ o. o.answer) (bare_admit (world t s) g r x)

-- ---- writable bytes that start as 0: no more than 4,096

pub blank_min : (n m k : ℕ) → n ≡ k → m ≡ min 4096 n → take m (replicate 4096 0) ≡ blank k
unfolding blank
blank_min n m k e h =
    let same : m ≡ min k (length (replicate {A = ℕ} 4096 0)) = omega (arith, length-replicate {A = ℕ} 4096 0) in
    rw same (take_min k (replicate 4096 0))

-- ---- the answers so far, and those still to come

-- a record's answer is the next of those still to come
pub answers_step : (t u : Table) (b v s read : List ℕ) (at n done after a : ℕ) (r : Record)
    → r ≡ record_at s at → done < n → after ≡ at + 6 + r.readable → read ≡ part s (at + 6) r.readable
    → Did (world t b) r.guest (request_of r.kind read (blank r.writable)) a u v
    → answers_from (world t b) (calls_from s at (n - done)) ≡ a ∷ answers_from (world u v) (calls_from s after (n - (done + 1)))
unfolding answers_from calls_from call_at
answers_step t u b v s read at n done after a r here h e body did =
    let step : n - done ≡ suc (n - (done + 1)) = omega arith in
    rw (did.0, did.1.0, did.1.1, step, e, body, here) refl

-- none is left
pub answers_end : (w : World) (s out : List ℕ) (at n i : ℕ) → good_trace s ≡ true → n ≤ i → length out ≤ i
    → take i out ++ answers_from w (calls_from s at (n - i)) ≡ answers_from started (calls_of s) → out ≡ shown s
unfolding shown calls_from answers_from
answers_end w s out at n i g h full e =
    let z : n - i ≡ 0 = omega arith in
    let all : out ≡ answers_from started (calls_of s) = rw (z, append-nil, take_all i out full) at e in
    rw g all

-- ---- what is printed

long_bad : (s : List ℕ) → 65536 < length s → good_trace s ≡ false
unfolding good_trace
long_bad s h = rw (le-leb 8 (length s) (omega arith), lt-leb (length s - 8) 65528 (omega arith))

-- what stands after the first 65,537 bytes changes nothing
pub printed_cut : (n : ℕ) → 65537 ≤ n → (s : List ℕ) → printed (take n s) ≡ printed s
unfolding printed
printed_cut n h s = go (cases_lt n (length s))
  where
    go : (n < length s) ⊎ (length s ≤ n) → printed (take n s) ≡ printed s
    go (inl over) = rw (long_bad (take n s) (omega (arith, length-take-le n s (omega arith))), long_bad s (omega arith))
    go (inr e) = ap printed (take_all n s e)
