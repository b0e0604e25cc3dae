-- Checks and stages that are tried one after the other, each handing its refusal on: one law for a step that refuses, one for a step that passes.
-- Assumes nothing.
use Rattle.std.specs.Prelude.{◌≡◌, Bool, true, false, List, ◌∷◌, ℕ, eqb, Result, Ok, Err}
use Rattle.std.specs.Result.{IsErr, IsErrAnd, is_ok, is_err}
use Rattle.std.proofs.Common.{sym, ◌∙◌, ap}
use Rattle.lists.specs.Test.{false_true}
use Rattle.model.specs.declared.Refusal.{Refusal}
use Rattle.model.specs.declared.Refusal.TheVariants.{Error, NotSupported, InvalidSession, NoSpace, BadGuest, NoOutcome, BadStore, BadFeature, BadShares, BadConfig}
use Rattle.model.specs.Answer.{ok, Check, first_fail, number_of, answer_in, checked}

-- no refusal has the number of a grant
pub never_ok : (e : Refusal) → number_of e ≡ ok → ⊥
never_ok Error h = false_true (ap (λ (n : ℕ). eqb n 0) h)
never_ok NotSupported h = false_true (ap (λ (n : ℕ). eqb n 0) h)
never_ok InvalidSession h = false_true (ap (λ (n : ℕ). eqb n 0) h)
never_ok NoSpace h = false_true (ap (λ (n : ℕ). eqb n 0) h)
never_ok BadGuest h = false_true (ap (λ (n : ℕ). eqb n 0) h)
never_ok NoOutcome h = false_true (ap (λ (n : ℕ). eqb n 0) h)
never_ok BadStore h = false_true (ap (λ (n : ℕ). eqb n 0) h)
never_ok BadFeature h = false_true (ap (λ (n : ℕ). eqb n 0) h)
never_ok BadShares h = false_true (ap (λ (n : ℕ). eqb n 0) h)
never_ok BadConfig h = false_true (ap (λ (n : ℕ). eqb n 0) h)

-- what the exit of a `?` answers: the number of the refusal that it hands on
pub handed_on : {A : Type 0} (r : Result A Refusal) (e : Refusal) → IsErr r × IsErrAnd r (λ y. y ≡ e) → answer_in r ≡ number_of e
handed_on (Ok v) e h = absurd h.1
handed_on (Err y) e h = ap number_of h.1

-- the number of an outcome, by its kind
pub refused_number : {A : Type 0} (r : Result A Refusal) (e : Refusal) → r ≡ Err e → answer_in r ≡ ok → ⊥
refused_number r e h z = never_ok e (ap answer_in (sym h) ∙ z)

pub granted_number : {A : Type 0} (r : Result A Refusal) (v : A) → r ≡ Ok v → answer_in r ≡ ok
granted_number r v h = ap answer_in h

-- ---- one check, as `check(holds, refusal)?` tries it: b is what it was asked, s the check's own test

-- it passes: the answer is that of the checks behind it
pub passes : (b s : Bool) (v : Unit {0}) (e : Refusal) (n m : ℕ) (ds : List Check) → b ≡ s → Ok v ≡ checked b e → m ≡ first_fail ds → m ≡ first_fail ((s, n) ∷ ds)
unfolding first_fail
passes true s v e n m ds t h q = rw (← t) q
passes false s v e n m ds t h q = absurd (false_true (ap is_err h))

-- it refuses
pub refuses : {A : Type 0} (r : Result A Refusal) (b s : Bool) (y e : Refusal) (n : ℕ) (ds : List Check) → b ≡ s → Err y ≡ checked b e → number_of e ≡ n
    → IsErr r × IsErrAnd r (λ z. z ≡ y) → answer_in r ≡ first_fail ((s, n) ∷ ds)
unfolding first_fail
refuses r true s y e n ds t h k q = absurd (false_true (ap is_ok h))
refuses r false s y e n ds t h k q = rw (← t) (handed_on r y q ∙ ap answer_in h ∙ k)
