-- Demand 2, of every call on every table and key store, and of data requests clause by clause.
-- Assumes nothing.
use Rattle.std.specs.Prelude.{◌≡◌, Bool, cond, not, ◌&&◌, ◌||◌, List, [], ◌∷◌, ◌++◌, ℕ, ◌+◌, ltb, length}
use Rattle.std.proofs.Math.Path.{refl}
use Rattle.std.proofs.Common.{sym, ap, ◌∙◌, subst, arith}
use Rattle.std.proofs.Math.Bool.{true, false}
use Rattle.std.proofs.Math.Option.{none, some}
use Rattle.std.proofs.Math.Dec.{eqb}
use Rattle.std.proofs.Math.ListN.{get_or-eq_default}
use borrow.Author.Tests.{eqb-true, eq-eqb, ltb-true, ltb-false, lt-ltb, leb-true, le-leb, not-true}
use Rattle.lists.specs.Test.{false_true, and_true, implies, implied}
use Rattle.model.specs.declared.Table.{Table}
use Rattle.model.specs.Bytes.{le32}
use Rattle.model.specs.Answer.{ok, Check, first_fail, granted}
use Rattle.model.specs.Algorithm.{cipher}
use Rattle.model.specs.declared.Session.{Session}
use Rattle.model.specs.Session.{World, Place, free, slots_of, place_at, guest_at, directed}
use Rattle.model.specs.View.{owned, live, live_at, entry_at, find, present, setting, view, full}
use Rattle.model.specs.Control.{opcode, service}
use Rattle.model.specs.Data.{number, flag, direction_of, start, lengths, data_checks}
use Rattle.model.specs.Device.{Request, Attach, Control, Admit, Part, KeyAnswer, Key, Finish, checks_of, checks, outcome, reply}
use Rattle.model.specs.Device as Device
use Rattle.model.specs.Setup.{set_up_checks, set_up_answer}
use Rattle.laws.specs.Found.{found_live}
use Rattle.laws.specs.Judge.{Passed, answers, answers_of, passed_first, first_passed, first_failed, holds_at}
use Rattle.demands.specs.Statement.{success, Answered, Demand2, SetUpAnswered, named, Acceptable}

-- a pair, for a list of facts
infixr 4 ◌▸◌
◌▸◌ : {A B : Type 0} → A → B → A × B
a ▸ b = (a, b)

-- ---- the answer of checks in order

-- a check that fails does not answer 0
answers_at : (cs ds : List Check) (b : Bool) (n : ℕ) → answers (cs ++ (b, n) ∷ ds) ≡ true → eqb n ok ≡ false
answers_at [] ds b n h = not-true (eqb n ok) (and_true (not (eqb n ok)) (answers ds) h).0
answers_at (c ∷ cs) ds b n h = answers_at cs ds b n (and_true (not (eqb c.1 ok)) (answers (cs ++ (b, n) ∷ ds)) h).1

pub answered : (cs : List Check) (answer success : ℕ) → answers cs ≡ true → answer ≡ cond (granted (first_fail cs)) success (first_fail cs) → Answered cs answer success
answered cs answer success h e = record { all = all; first = first; only = only }
  where
    n : ℕ
    n = first_fail cs

    all : Passed cs → answer ≡ success
    all p = e ∙ rw (eq-eqb n ok (passed_first cs p))

    first : (before after : List Check) (m : ℕ) → cs ≡ before ++ (false, m) ∷ after → Passed before → answer ≡ m
    first before after m q p =
        let f : n ≡ m = ap first_fail q ∙ first_failed before after m p in
        let z : eqb m ok ≡ false = answers_at before after false m (sym (ap answers q) ∙ h) in
        e ∙ ap (λ k. cond (granted k) success k) f ∙ rw z

    only : answer ≡ ok → Passed cs
    only q = first_passed cs h (go (granted n) refl (sym e ∙ q))
      where
        go : (b : Bool) → granted n ≡ b → cond b success n ≡ ok → n ≡ ok
        go true h z = eqb-true n ok h
        go false h z = z

-- a number that is 0 or not
zero_or : (n : ℕ) → n ≡ cond (granted n) ok n
zero_or n = go (granted n) refl
  where
    go : (b : Bool) → granted n ≡ b → n ≡ cond b ok n
    go true e = eqb-true n ok e
    go false e = refl

-- ---- set-up, and every call

pub set_up_answered : (config reserves caps store : List ℕ) → SetUpAnswered config reserves caps store
unfolding set_up_answer
set_up_answered config reserves caps store =
    answered (set_up_checks config reserves caps store) (first_fail (set_up_checks config reserves caps store)) ok refl (zero_or (first_fail (set_up_checks config reserves caps store)))

-- the answer, by the number n of the checks
reply_answer : (w : World) (g : ℕ) (q : Request) → (reply w g q).answer ≡ cond (granted (first_fail (checks w g q))) (success q) (first_fail (checks w g q))
unfolding reply outcome
reply_answer w g q = by q
  where
    finish : (b : Bool) (n s : ℕ) (c d : List ℕ) → (cond b (Device.answered s c) (Device.answered n d)).answer ≡ cond b s n
    finish true n s c d = refl
    finish false n s c d = refl

    by : (q : Request) → (outcome g (view w g) q (first_fail (checks w g q))).answer ≡ cond (granted (first_fail (checks w g q))) (success q) (first_fail (checks w g q))
    by (Attach word) = zero_or _
    by (Control r b) = zero_or _
    by (Admit r b) = zero_or _
    by (Part x r b) = zero_or _
    by (KeyAnswer n) = zero_or _
    by (Key n) = zero_or _
    by (Finish op verdict b) = finish (granted (first_fail (checks w g (Finish op verdict b)))) _ _ _ _

pub demand2 : (w : World) (g : ℕ) (q : Request) → Demand2 w g q
unfolding checks
demand2 w g q = answered (checks w g q) (reply w g q).answer (success q) (answers_of (setting w) g (view w g) (full w.table g) q) (reply_answer w g q)

-- ---- the session that a data request names

-- a search that ended behind the slots found no live session
live_found : (t : Table) (g n : ℕ) → live t g n (place_at t (live_at t g n)) ≡ true → ltb (live_at t g n) (length (slots_of t)) ≡ true
live_found t g n e = go (ltb (live_at t g n) (length (slots_of t))) refl
  where
    go : (b : Bool) → ltb (live_at t g n) (length (slots_of t)) ≡ b → b ≡ true
    go true q = refl
    go false q =
        let d : place_at t (live_at t g n) ≡ free = get_or-eq_default (slots_of t) free {n = live_at t g n} (ltb-false (live_at t g n) (length (slots_of t)) q) in
        absurd (false_true (sym (ap (live t g n) d) ∙ e))

-- ---- data requests: accepted exactly if acceptable

module _ (w : World) (g : ℕ) (r b : List ℕ) where
  abbrev t : Table
  t = w.table

  abbrev at : ℕ
  at = live_at t g (number r)

  abbrev here : Bool
  here = present g (guest_at t g)

  -- the checks, where the search ended within the slots or behind them
  abbrev pub checks_by : Bool → List Check
  checks_by s = data_checks t.config here (cond s (some (entry_at w at)) none) r (length b)

  pub admit_checks : checks w g (Admit r b) ≡ checks_by (ltb at (length (slots_of t)))
  unfolding checks checks_of find
  admit_checks = refl

  -- a live session's slot names its guest
  owned_of : (c : Place) → live t g (number r) c ≡ true → owned g c ≡ true
  owned_of c h = (and_true (owned g c) (eqb c.number (number r)) (and_true (owned g c && eqb c.number (number r)) _ h).0).0

  passed_acceptable : (s : Bool) → ltb at (length (slots_of t)) ≡ s → Passed (checks_by s) → Acceptable t g r b
  unfolding present
  passed_acceptable false e p = absurd (false_true (holds_at (checks_by false) 6 p))
  passed_acceptable true e p =
      let x = (named t g r).session in
      let h = and_true (ltb g 8) (guest_at t g).attached (holds_at (checks_by true) 0 p) in
      let u = and_true (eqb x.service (service r)) (not (directed (service r)) || eqb x.direction (direction_of (opcode r))) (holds_at (checks_by true) 6 p) in
      let v = and_true (eqb (length r) (start r + (lengths r).iv + (lengths r).source + (lengths r).aad)) (eqb (length b) ((lengths r).written + 1)) (holds_at (checks_by true) 10 p) in
      record {
        guest = ltb-true g 8 h.0;
        attached = h.1;
        operation = holds_at (checks_by true) 3 p;
        mode = eqb-true (flag r) 1 (holds_at (checks_by true) 5 p);
        type = λ c. eqb-true (le32 r 64) 1 (implied (eqb (service r) cipher) (eqb (le32 r 64) 1) (holds_at (checks_by true) 8 p) (eq-eqb (service r) cipher c));
        alive = found_live t g (number r) (ltb-true at (length (slots_of t)) e);
        own = eqb-true (named t g r).owner g (and_true (named t g r).held (eqb (named t g r).owner g) (owned_of (named t g r) (found_live t g (number r) (ltb-true at (length (slots_of t)) e)))).1;
        serves = eqb-true x.service (service r) u.0;
        directs = λ d. eqb-true x.direction (direction_of (opcode r)) (implied (directed (service r)) (eqb x.direction (direction_of (opcode r))) u.1 d);
        readable = eqb-true (length r) _ v.0;
        writable = eqb-true (length b) _ v.1;
        limit = leb-true _ t.config.size (holds_at (checks_by true) 9 p);
        algorithm = holds_at (checks_by true) 11 p;
      }

  acceptable_passed : Acceptable t g r b → Passed (checks_by true)
  unfolding present
  acceptable_passed a =
      (rw (lt-ltb g 8 a.guest, a.attached))
      ▸ le-leb 1 (length b) (omega (arith, a.writable))
      ▸ le-leb 24 (length r) (omega (arith, a.readable))
      ▸ a.operation
      ▸ (rw a.mode)
      ▸ eq-eqb (flag r) 1 a.mode
      ▸ suits_session
      ▸ le-leb (start r) (length r) (omega (arith, a.readable))
      ▸ implies (eqb (service r) cipher) (eqb (le32 r 64) 1) (λ c. eq-eqb (le32 r 64) 1 (a.type (eqb-true (service r) cipher c)))
      ▸ le-leb _ t.config.size a.limit
      ▸ (rw (eq-eqb (length r) _ a.readable, eq-eqb (length b) _ a.writable))
      ▸ a.algorithm
      ▸ tt
    where
      x : Session
      x = (named t g r).session

      suits_session : eqb x.service (service r) && (not (directed (service r)) || eqb x.direction (direction_of (opcode r))) ≡ true
      suits_session =
          rw (eq-eqb x.service (service r) a.serves)
          (implies (directed (service r)) (eqb x.direction (direction_of (opcode r))) (λ d. eq-eqb x.direction (direction_of (opcode r)) (a.directs d)))

  pub accepted : (Acceptable t g r b → (reply w g (Admit r b)).answer ≡ ok) × ((reply w g (Admit r b)).answer ≡ ok → Acceptable t g r b)
  accepted = (
    λ a. (demand2 w g (Admit r b)).all (subst Passed (sym (admit_checks ∙ ap checks_by (live_found t g (number r) a.alive))) (acceptable_passed a)),
    λ e. passed_acceptable (ltb at (length (slots_of t))) refl (subst Passed admit_checks ((demand2 w g (Admit r b)).only e)),
  )
