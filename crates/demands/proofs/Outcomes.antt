-- What each call gives its caller: demand 2's outcome bytes, jobs, parts and keys.
-- Assumes nothing.
use Rattle.std.specs.Prelude.{◌≡◌, refl, ◌⊎◌, Bool, true, false, cond, List, [], ◌∷◌, ◌++◌, ℕ, suc, length}
use Rattle.std.proofs.Common.{inl, inr, eqb-true, leb-true}
use Rattle.model.specs.Bytes.{le}
use Rattle.model.specs.Answer.{ok, first_fail, granted, control_outcome, control_bytes, data_bytes}
use Rattle.model.specs.Session.{World, guest_at}
use Rattle.model.specs.View.{Setting, View, setting, view, full}
use Rattle.model.specs.Control.{is_create, create_checks, destroy_checks, control_checks}
use Rattle.model.specs.Data.{status}
use Rattle.model.specs.Device.{Request, Attach, Control, Admit, Part, KeyAnswer, Key, Finish, outcome, checks_of, checks, reply}
use Rattle.laws.specs.Kind.{by_kind}
use Rattle.laws.specs.Judge.{Passed, passed_first, holds_at}
use Rattle.laws.specs.Effect.{checks_passed}
use Rattle.demands.specs.Statement.{Given, NotGiven, Gets}
use Rattle.demands.proofs.Demand1.{last_byte}

-- ---- a call whose checks all hold

-- it has the writable length of its operation
pub control_room : (k : Setting) (g : ℕ) (v : View) (f : Bool) (r : List ℕ) (room : ℕ) → Passed (control_checks k g v f r room) → room ≡ cond (is_create r) 16 1
control_room k g v f r room =
    by_kind (λ t cs a. Passed (cs f) → room ≡ cond (is_create r) 16 1) k g v r room
    (λ e p. eqb-true room _ (holds_at (create_checks k g v f r room) 5 p))
    (λ e p. eqb-true room _ (holds_at (destroy_checks k g v r room) 5 p))

-- and its outcome bytes
control_given : (b : List ℕ) (n : ℕ) (t : Bool) → length b ≡ cond t 16 1
    → ((t ≡ true) × (control_bytes b (cond t n 0) ok ≡ le 8 n ++ le 4 ok ++ le 4 0)) ⊎ ((t ≡ false) × (control_bytes b (cond t n 0) ok ≡ ok ∷ []))
unfolding control_bytes control_outcome
control_given b n true e = inl (refl, rw e)
control_given b n false e = inr (refl, rw e)

given_ok : (w : World) (g : ℕ) (q : Request) → Passed (checks w g q) → Given w g q (outcome g (view w g) q ok)
unfolding outcome checks checks_of data_bytes
given_ok w g (Attach word) p = refl
given_ok w g (Control r b) p =
    control_given b (suc (guest_at w.table g).last) (is_create r) (control_room (setting w) g (view w g) (full w.table g) r (length b) p)
given_ok w g (Admit r b) p = (refl, refl)
given_ok w g (Part x r b) p = (refl, refl)
given_ok w g (KeyAnswer n) p = refl
given_ok w g (Key n) p = refl
given_ok w g (Finish op verdict b) p = last_byte b (status op verdict) (leb-true 1 (length b) p.1.0)

-- ---- and one that is refused

not_given : (g : ℕ) (v : View) (q : Request) (n : ℕ) → granted n ≡ false → NotGiven (outcome g v q n)
unfolding outcome
not_given g v (Attach word) n e = record { job = refl; bytes = refl }
not_given g v (Control r b) n e = record { job = refl; bytes = refl }
not_given g v (Admit r b) n e = record { job = rw e; bytes = refl }
not_given g v (Part x r b) n e = record { job = refl; bytes = rw e }
not_given g v (KeyAnswer m) n e = record { job = refl; bytes = refl }
not_given g v (Key m) n e = record { job = refl; bytes = rw e }
not_given g v (Finish op verdict b) n e = rw e (record { job = refl; bytes = refl })

pub gets : (w : World) (g : ℕ) (q : Request) → Gets w g q
unfolding reply
gets w g q = record {
  given = λ p. rw (passed_first (checks w g q) p) (given_ok w g q p);
  refused = λ d. not_given g (view w g) q n (go (granted n) refl d);
}
  where
    n : ℕ
    n = first_fail (checks w g q)

    go : (b : Bool) → granted n ≡ b → (Passed (checks w g q) → ⊥) → granted n ≡ false
    go true e d = absurd (d (checks_passed w g q (eqb-true n ok e)))
    go false e d = e
