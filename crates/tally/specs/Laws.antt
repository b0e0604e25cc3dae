-- The running tally is the tally of the answers so far, where these are fewer than 32 bits count. Assumes nothing.
use Rattle.std.specs.Prelude.{ℕ, ◌<◌, ◌≡◌, List, [], ◌∷◌, ◌++◌, eqb, length}
use Rattle.std.proofs.Common.{arith, length-append}
use Rattle.std.proofs.lemmas.Bool.Decides.{nat_tests}
use Rattle.lists.specs.Seek.{count_append, count_not}
use Rattle.model.specs.Answer.{ok}
use Rattle.tally.specs.declared.Tally.{Tally}
use Rattle.tally.specs.Count.{tally_of, after_answer}

pub tally_more : (t : Tally) (l : List ℕ) (a : ℕ) → t ≡ tally_of l → length l < 4294967295 → after_answer t a ≡ tally_of (l ++ a ∷ [])
unfolding tally_of
tally_more t l a e h =
    let within = count_not (λ answer. eqb answer ok) l in
    let granted = count_append (λ answer. eqb answer ok) l (a ∷ []) in
    let records = length-append l (a ∷ []) in
    rw e (grind (arith, nat_tests))
