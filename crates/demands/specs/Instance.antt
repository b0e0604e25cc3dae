-- The device is an instance of `Rules`: what it asks for, by every check but the room, is lawful.
-- Assumes nothing.
use Rattle.std.specs.Prelude.{◌≡◌, refl, Bool, true, false, List, [], ◌∷◌, ◌++◌, ℕ, eqb, ltb, length}
use Rattle.std.proofs.Math.Option.{Option, none, some}
use Rattle.std.proofs.Common.{ltb-true}
use Rattle.lists.specs.Test.{false_true, and_true, both_ways}
use Rattle.model.specs.Bytes.{le64}
use Rattle.model.specs.Answer.{err}
use Rattle.model.specs.Algorithm.{mac}
use Rattle.model.specs.Session.{area_size, last_number, key_area, area_of, Entry, accepts}
use Rattle.model.specs.View.{is_live, session_in, Setting, View, present}
use Rattle.model.specs.Act.{Act, pass, attach, create, destroy, judge}
use Rattle.model.specs.Control.{service, asked, new_entry, form_checks, numbers_left, create_checks, destroy_checks}
use Rattle.model.specs.Device.{Request, Attach, Control, Admit, Part, KeyAnswer, Key, Finish, Outcome, checks_of, asks, outcome}
use Rattle.history.specs.Apply.{gate}
use Rattle.history.specs.Lawful.{Lawful, Known, Creatable}
use Rattle.history.specs.Rules.{Rules}
use Rattle.laws.specs.Kind.{by_kind}
use Rattle.laws.specs.Judge.{Passed, holds_at, create_passed}
use Rattle.laws.specs.Areas.{length_key_area}
use Rattle.demands.specs.Checks.{lawful_judge, gate_other, gate_create}

-- what a request asks for, by every check but the room
abbrev pub decide : Setting → ℕ → View → Request → Act
decide k g v q = judge (checks_of k g v false q) (asks q)

-- the room check makes it what is done
pub decided : (k : Setting) (g : ℕ) (v : View) (f : Bool) (q : Request) → gate f (decide k g v q) ≡ judge (checks_of k g v f q) (asks q)
unfolding checks_of
decided k g v f (Attach word) = gate_other f (checks_of k g v f (Attach word)) attach refl
decided k g v f (Control r w) =
    by_kind (λ t cs a. gate f (judge (cs false) a) ≡ judge (cs f) a) k g v r (length w)
    (λ e. gate_create f (form_checks k g v r (length w) ++ (numbers_left v, err) ∷ []) (new_entry r))
    (λ e. gate_other f (destroy_checks k g v r (length w)) (destroy (le64 r 16)) refl)
decided k g v f (Admit r w) = gate_other f (checks_of k g v f (Admit r w)) pass refl
decided k g v f (Part x r w) = gate_other f (checks_of k g v f (Part x r w)) pass refl
decided k g v f (KeyAnswer n) = gate_other f (checks_of k g v f (KeyAnswer n)) pass refl
decided k g v f (Key n) = gate_other f (checks_of k g v f (Key n)) pass refl
decided k g v f (Finish op verdict w) = gate_other f (checks_of k g v f (Finish op verdict w)) pass refl

-- ---- a create's key area is whole

length_area_of : (s : ℕ) (key : List ℕ) → length (area_of s key) ≡ area_size
unfolding area_of
length_area_of s key = both_ways (λ (a : List ℕ). length a ≡ area_size) (eqb s mac) (key_area [] key) (key_area key []) (length_key_area [] key) (length_key_area key [])

-- ---- each act is lawful

-- a guest that is present is attached
attached_of : (g : ℕ) (v : View) → present g v.guest ≡ true → v.guest.attached ≡ true
unfolding present
attached_of g v e = (and_true (ltb g 8) v.guest.attached e).1

create_lawful : (k : Setting) (g : ℕ) (v : View) (r : List ℕ) (w : ℕ) → Passed (create_checks k g v false r w) → Creatable k v (new_entry r)
unfolding new_entry accepts
create_lawful k g v r w p = record {
  attached = attached_of g v (holds_at (create_checks k g v false r w) 1 p);
  left = ltb-true v.guest.last last_number (create_passed k g v false r w p).1;
  sound = record {
    accepted = rw (holds_at (create_checks k g v false r w) 8 p, holds_at (create_checks k g v false r w) 10 p, holds_at (create_checks k g v false r w) 11 p);
    whole = length_area_of (asked r).service _;
  };
}

live_of : (v : View) (n : ℕ) → v.guest.attached ≡ true → is_live (v.find n) ≡ true → Known v n
live_of v n a h = go (v.find n) refl h
  where
    go : (o : Option Entry) → v.find n ≡ o → is_live o ≡ true → Known v n
    go none e h = absurd (false_true h)
    go (some y) e h = record { attached = a; entry = y; found = e }

destroy_lawful : (k : Setting) (g : ℕ) (v : View) (r : List ℕ) (w : ℕ) → Passed (destroy_checks k g v r w) → Known v (le64 r 16)
destroy_lawful k g v r w p =
    let e = v.find (le64 r 16) in
    live_of v (le64 r 16) (attached_of g v (holds_at (destroy_checks k g v r w) 1 p))
    (and_true (is_live e) (eqb (session_in e).service (service r)) (holds_at (destroy_checks k g v r w) 8 p)).0

pub lawful : (k : Setting) (g : ℕ) (v : View) (q : Request) → Lawful k g v (decide k g v q)
unfolding checks_of
lawful k g v (Attach word) = lawful_judge k g v (checks_of k g v false (Attach word)) attach (λ p. (ltb-true g 8 p.1.0, p.0))
lawful k g v (Control r w) =
    by_kind (λ t cs a. Lawful k g v (judge (cs false) a)) k g v r (length w)
    (λ e. lawful_judge k g v (create_checks k g v false r (length w)) (create (new_entry r)) (create_lawful k g v r (length w)))
    (λ e. lawful_judge k g v (destroy_checks k g v r (length w)) (destroy (le64 r 16)) (destroy_lawful k g v r (length w)))
lawful k g v (Admit r w) = lawful_judge k g v (checks_of k g v false (Admit r w)) pass (λ p. tt)
lawful k g v (Part x r w) = lawful_judge k g v (checks_of k g v false (Part x r w)) pass (λ p. tt)
lawful k g v (KeyAnswer n) = lawful_judge k g v (checks_of k g v false (KeyAnswer n)) pass (λ p. tt)
lawful k g v (Key n) = lawful_judge k g v (checks_of k g v false (Key n)) pass (λ p. tt)
lawful k g v (Finish op verdict w) = lawful_judge k g v (checks_of k g v false (Finish op verdict w)) pass (λ p. tt)

abbrev pub rules : Rules
rules = record { Request = Request; Outcome = Outcome; decide = decide; outcome = outcome; lawful = lawful }
