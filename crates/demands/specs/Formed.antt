-- Which requests ask for a create, and what answers them.
-- Assumes nothing.
use Rattle.std.specs.Prelude.{◌≡◌, refl, Bool, true, false, cond, List, [], ◌∷◌, ℕ, ◌<◌, length}
use Rattle.std.proofs.Common.{sym, ap, ◌∙◌, subst, lt-ltb}
use Rattle.lists.specs.Test.{false_true}
use Rattle.model.specs.Answer.{ok, err, nospc, Check, first_fail}
use Rattle.model.specs.Session.{last_number, World, guest_at}
use Rattle.model.specs.View.{Setting, View, setting, view, full}
use Rattle.model.specs.Act.{create, destroy, judge, answer_of}
use Rattle.model.specs.Bytes.{le64}
use Rattle.model.specs.Control.{new_entry, form_checks, numbers_left, create_checks, destroy_checks}
use Rattle.model.specs.Device.{Request, Attach, Control, Admit, Part, KeyAnswer, Key, Finish, checks_of, asks, outcome, checks, act, reply}
use Rattle.model.specs.Calls.{WellFormed}
use Rattle.history.specs.Apply.{Creates}
use Rattle.history.proofs.Learn.{gate_answer}
use Rattle.laws.specs.Kind.{by_kind}
use Rattle.laws.specs.Judge.{Passed, first_passed, passed_first, passed_both, judge_passed, create_passed}
use Rattle.laws.specs.Effect.{act_first}
use Rattle.demands.specs.Checks.{creates_judge}
use Rattle.demands.specs.Instance.{decide, decided}

-- a control request that asks for a create is well-formed and has numbers left
pub control_formed : (w : World) (g : ℕ) (r b : List ℕ) → Creates (decide (setting w) g (view w g) (Control r b)) → WellFormed w g r b × (numbers_left (view w g) ≡ true)
unfolding checks_of
control_formed w g r b =
    by_kind (λ t cs a. Creates (judge (cs false) a) → ((t ≡ true) × (first_fail form ≡ ok)) × (numbers_left v ≡ true)) k g v r (length b)
    (λ e h.
    let p = create_passed k g v false r (length b) (creates_judge (create_checks k g v false r (length b)) (create (new_entry r)) h).0 in
    ((refl, passed_first form p.0), p.1))
    (λ e h. absurd (creates_judge (destroy_checks k g v r (length b)) (destroy (le64 r 16)) h).1)
  where
    k : Setting
    k = setting w

    v : View
    v = view w g

    form : List Check
    form = form_checks k g v r (length b)

-- no other request asks for one
only_control : (X : Type 0) (q : Request) → ((r b : List ℕ) → q ≡ Control r b → X) → Creates (asks q) → X
only_control X (Attach word) f h = absurd h
only_control X (Control r b) f h = f r b refl
only_control X (Admit r b) f h = absurd h
only_control X (Part x r b) f h = absurd h
only_control X (KeyAnswer n) f h = absurd h
only_control X (Key n) f h = absurd h
only_control X (Finish op verdict b) f h = absurd h

pub creates_control : (X : Type 0) (w : World) (g : ℕ) (q : Request) → ((r b : List ℕ) → q ≡ Control r b → X) → Creates (decide (setting w) g (view w g) q) → X
creates_control X w g q f h = only_control X q f (creates_judge (checks_of (setting w) g (view w g) false q) (asks q) h).1

-- a well-formed create with numbers left asks for one
pub formed_creates : (w : World) (g : ℕ) (r b : List ℕ) → WellFormed w g r b → (guest_at w.table g).last < last_number → Creates (decide (setting w) g (view w g) (Control r b))
unfolding checks_of
formed_creates w g r b f n =
    by_kind (λ t cs a. t ≡ true → Creates (judge (cs false) a)) k g v r (length b)
    (λ e h. subst Creates (sym (judge_passed (create_checks k g v false r (length b)) (create (new_entry r)) passed)) tt)
    (λ e h. absurd (false_true h))
    f.0
  where
    k : Setting
    k = setting w

    v : View
    v = view w g

    passed : Passed (create_checks k g v false r (length b))
    passed =
        passed_both (form_checks k g v r (length b)) ((numbers_left v, err) ∷ (true, nospc) ∷ []) (first_passed (form_checks k g v r (length b)) refl f.1)
        (lt-ltb v.guest.last last_number n, (refl, tt))

-- and the room alone answers it
pub create_answer : (w : World) (g : ℕ) (r b : List ℕ) (f : Bool) → Creates (decide (setting w) g (view w g) (Control r b)) → full w.table g ≡ f
    → (reply w g (Control r b)).answer ≡ cond f nospc ok
unfolding reply outcome act checks
create_answer w g r b f h e =
    sym (act_first w g (Control r b))
    ∙ ap answer_of (sym (decided (setting w) g (view w g) (full w.table g) (Control r b)))
    ∙ gate_answer (decide (setting w) g (view w g) (Control r b)) (full w.table g) h
    ∙ ap (λ (t : Bool). cond t nospc ok) e
