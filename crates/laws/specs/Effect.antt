-- What a call leaves and gives, by its answer: the laws that the proofs of the public calls cite.
-- Assumes nothing.
use Rattle.std.specs.Prelude.{◌≡◌, refl, Bool, true, false, cond, List, ℕ, ltb, length}
use Rattle.std.proofs.Math.Path.{sym, ap}
use Rattle.std.proofs.Common.{◌∙◌}
use Rattle.std.proofs.Math.Option.{Option, none, some}
use Rattle.lists.specs.Test.{both_ways}
use Rattle.model.specs.declared.Field.{Field}
use Rattle.model.specs.Answer.{ok, first_fail}
use Rattle.model.specs.Session.{World, Entry, slots_of}
use Rattle.model.specs.View.{setting, view, full, find, live_at, entry_at, is_live, session_in}
use Rattle.model.specs.Act.{Act, refuse, pass, attach, create, destroy, answer_of, table_after, store_after, after}
use Rattle.model.specs.Control.{is_create, new_entry}
use Rattle.model.specs.Data.{number}
use Rattle.model.specs.Bytes.{le64}
use Rattle.model.specs.Device.{Request, Attach, Control, Admit, Part, KeyAnswer, Key, Finish, checks_of, asks, outcome, checks, act, reply, next, bare}
use Rattle.laws.specs.Judge.{Passed, answers_of, first_passed, judge_passed, judge_answer}

-- ---- the answer of what is done

asks_ok : (q : Request) → answer_of (asks q) ≡ ok
asks_ok (Attach word) = refl
asks_ok (Control r w) = both_ways (λ a. answer_of a ≡ ok) (is_create r) (create (new_entry r)) (destroy (le64 r 16)) refl refl
asks_ok (Admit r w) = refl
asks_ok (Part x r w) = refl
asks_ok (KeyAnswer n) = refl
asks_ok (Key n) = refl
asks_ok (Finish op verdict w) = refl

pub act_first : (w : World) (g : ℕ) (q : Request) → answer_of (act w g q) ≡ first_fail (checks w g q)
unfolding act
act_first w g q = judge_answer (checks w g q) (asks q) (asks_ok q)

-- all checks hold
pub checks_passed : (w : World) (g : ℕ) (q : Request) → first_fail (checks w g q) ≡ ok → Passed (checks w g q)
unfolding checks
checks_passed w g q = first_passed (checks_of (setting w) g (view w g) (full w.table g) q) (answers_of (setting w) g (view w g) (full w.table g) q)

-- then the request is done
pub act_granted : (w : World) (g : ℕ) (q : Request) → first_fail (checks w g q) ≡ ok → act w g q ≡ asks q
unfolding act
act_granted w g q e = judge_passed (checks w g q) (asks q) (checks_passed w g q e)

-- else nothing is
pub kept : (w : World) (g : ℕ) (a : Act) → (answer_of a ≡ ok → ⊥) → after w g a ≡ w
unfolding table_after store_after
kept w g (refuse n) h = refl
kept w g pass h = refl
kept w g attach h = absurd (h refl)
kept w g (create e) h = absurd (h refl)
kept w g (destroy n) h = absurd (h refl)

-- ---- a is the answer of the checks as the code found it

module _ (w : World) (g : ℕ) (q : Request) (a : ℕ) (e : a ≡ first_fail (checks w g q)) where
  pub replied : outcome g (view w g) q a ≡ reply w g q
  unfolding reply
  replied = ap (outcome g (view w g) q) e

  -- it is 0: the request is done
  pub granted_next : a ≡ ok → after w g (asks q) ≡ next w g q
  unfolding next
  granted_next z = ap (after w g) (sym (act_granted w g q (sym e ∙ z)))

  -- it is not: nothing changes
  pub refused_next : (a ≡ ok → ⊥) → w ≡ next w g q
  unfolding next
  refused_next d = sym (kept w g (act w g q) (λ z. d (e ∙ sym (act_first w g q) ∙ z)))

-- ---- data requests and finish do not look at the key store

pub find_bare : (w : World) (g n : ℕ)
    → (is_live (find w g n) ≡ is_live (find (bare w.table) g n)) × (session_in (find w g n) ≡ session_in (find (bare w.table) g n))
unfolding find
find_bare w g n = go (ltb (live_at w.table g n) (length (slots_of w.table)))
  where
    at : ℕ
    at = live_at w.table g n

    Same : Option Entry → Option Entry → Type 0
    Same a b = (is_live a ≡ is_live b) × (session_in a ≡ session_in b)

    go : (b : Bool) → Same (cond b (some (entry_at w at)) none) (cond b (some (entry_at (bare w.table) at)) none)
    go true = (refl, refl)
    go false = (refl, refl)

data_first : (w : World) (g : ℕ) (r b : List ℕ) → first_fail (checks w g (Admit r b)) ≡ first_fail (checks (bare w.table) g (Admit r b))
unfolding checks checks_of
data_first w g r b = rw ((find_bare w g (number r)).0, (find_bare w g (number r)).1)

pub bare_admit : (w : World) (g : ℕ) (r b : List ℕ) → reply w g (Admit r b) ≡ reply (bare w.table) g (Admit r b)
unfolding reply outcome
bare_admit w g r b = ap (outcome g (view w g) (Admit r b)) (data_first w g r b)

pub bare_part : (w : World) (g : ℕ) (x : Field) (r b : List ℕ) → reply w g (Part x r b) ≡ reply (bare w.table) g (Part x r b)
unfolding reply outcome checks checks_of
bare_part w g x r b = ap (outcome g (view w g) (Part x r b)) (data_first w g r b)

pub bare_finish : (w : World) (g op verdict : ℕ) (b : List ℕ) → reply w g (Finish op verdict b) ≡ reply (bare w.table) g (Finish op verdict b)
unfolding reply outcome checks checks_of
bare_finish w g op verdict b = refl
