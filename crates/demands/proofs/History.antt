-- The history read from answers and outcome bytes is the history of the acts.
-- Assumes nothing.
use Rattle.std.specs.Prelude.{◌≡◌, refl, Bool, true, false, cond, List, [], ◌∷◌, ◌++◌, ℕ, suc, ◌<◌, eqb, length}
use Rattle.std.proofs.Common.{sym, ap, ap₂, ◌∙◌, arith, eqb-true, ltb-true}
use Rattle.std.proofs.lemmas.Bool.{eqb-false}
use Rattle.model.specs.Bytes.{le, le64}
use Rattle.model.specs.Answer.{ok, first_fail, granted, control_outcome, control_bytes}
use Rattle.model.specs.Session.{last_number, World}
use Rattle.model.specs.View.{Setting, View, setting, view, full}
use Rattle.model.specs.Act.{Act, refuse, pass, attach, create, destroy, answer_of}
use Rattle.model.specs.Control.{is_create, control_checks, control_act}
use Rattle.model.specs.Device.{Request, Attach, Control, Admit, Part, KeyAnswer, Key, Finish, checks_of, checks, asks, outcome, act, reply, next}
use Rattle.model.specs.Calls.{Call, Past, created, destroyed, noted, past}
use Rattle.history.specs.Cells as Cells
use Rattle.history.specs.Rules as Rules
use Rattle.history.specs.Past as Past
use Rattle.history.specs.Invariant.{Inv}
use Rattle.follows.specs.Follows.{state_of, view_slots}
use Rattle.laws.specs.Numbers.{le64_le}
use Rattle.laws.specs.Kind.{by_kind}
use Rattle.laws.specs.Judge.{Passed, create_passed}
use Rattle.laws.specs.Effect.{act_first, act_granted, checks_passed}
use Rattle.demands.proofs.Outcomes.{control_room}
use Rattle.demands.specs.Instance.{rules}
use Rattle.demands.specs.Steps.{same_act, same_next, inv_step}

-- ---- a granted create: its outcome bytes name the number that it took

named_number : (b : List ℕ) (n : ℕ) → length b ≡ 16 → n < last_number → le64 (control_bytes b (suc n) ok) 0 ≡ suc n
unfolding control_bytes control_outcome le
named_number b n e h = rw e (le64_le (suc n) (le 4 ok ++ le 4 0) (omega arith))

noted_control : (p : Past) (k : Setting) (g : ℕ) (v : View) (f : Bool) (r b : List ℕ) → Passed (control_checks k g v f r (length b))
    → Past.noted p v (control_act r) ≡ cond (is_create r) (created (le64 (control_bytes b (cond (is_create r) (suc v.guest.last) 0) ok) 0) p) (destroyed p)
unfolding Past.noted
noted_control p k g v f r b h =
    by_kind
    (λ t cs a. Passed (cs f) → length b ≡ cond t 16 1 → Past.noted p v a ≡ cond t (created (le64 (control_bytes b (cond t (suc v.guest.last) 0) ok) 0) p) (destroyed p))
    k g v r (length b)
    (λ e q room. ap (λ (n : ℕ). created n p) (sym (named_number b v.guest.last room (ltb-true v.guest.last last_number (create_passed k g v f r (length b) q).1))))
    (λ e q room. refl)
    h (control_room k g v f r (length b) h)

-- ---- one call

-- a request that is done
noted_done : (p : Past) (w : World) (g : ℕ) (q : Request) → Passed (checks w g q) → Past.noted p (view w g) (asks q) ≡ noted p q (outcome g (view w g) q ok)
unfolding Past.noted noted outcome checks checks_of
noted_done p w g (Attach word) h = refl
noted_done p w g (Control r b) h = noted_control p (setting w) g (view w g) (full w.table g) r b h
noted_done p w g (Admit r b) h = refl
noted_done p w g (Part x r b) h = refl
noted_done p w g (KeyAnswer n) h = refl
noted_done p w g (Key n) h = refl
noted_done p w g (Finish op verdict b) h = refl

-- one that is not counts for nothing
noted_refused : (p : Past) (v : View) (g n : ℕ) (q : Request) → granted n ≡ false → p ≡ noted p q (outcome g v q n)
unfolding noted outcome
noted_refused p v g n (Attach word) e = rw e
noted_refused p v g n (Control r b) e = rw e
noted_refused p v g n (Admit r b) e = refl
noted_refused p v g n (Part x r b) e = refl
noted_refused p v g n (KeyAnswer m) e = refl
noted_refused p v g n (Key m) e = refl
noted_refused p v g n (Finish op verdict b) e = refl

noted_kept : (p : Past) (v : View) (a : Act) → (answer_of a ≡ ok → ⊥) → Past.noted p v a ≡ p
unfolding Past.noted
noted_kept p v (refuse n) d = refl
noted_kept p v pass d = refl
noted_kept p v attach d = absurd (d refl)
noted_kept p v (create e) d = absurd (d refl)
noted_kept p v (destroy n) d = absurd (d refl)

noted_step : (p : Past) (w : World) (g : ℕ) (q : Request) → Past.noted p (view w g) (act w g q) ≡ noted p q (reply w g q)
unfolding reply
noted_step p w g q = go (granted n) refl
  where
    n : ℕ
    n = first_fail (checks w g q)

    go : (b : Bool) → granted n ≡ b → Past.noted p (view w g) (act w g q) ≡ noted p q (outcome g (view w g) q n)
    go true e =
        let z = eqb-true n ok e in
        ap (Past.noted p (view w g)) (act_granted w g q z)
        ∙ noted_done p w g q (checks_passed w g q z)
        ∙ ap (λ (m : ℕ). noted p q (outcome g (view w g) q m)) (sym z)
    go false e =
        noted_kept p (view w g) (act w g q) (λ z. eqb-false n ok e (sym (act_first w g q) ∙ z))
        ∙ noted_refused p (view w g) g n q e

-- ---- lists of calls

pub same_past : (g : ℕ) (p : Past) (w : World) (cs : List (Call Request)) → Inv (state_of w) → past g p w cs ≡ Past.past rules g p (state_of w) cs
unfolding past Past.past
same_past g p w [] v = refl
same_past g p w (c ∷ cs) v =
    same_past g (cond (eqb c.guest g) (noted p c.request (reply w c.guest c.request)) p) (next w c.guest c.request) cs (inv_step w c v)
    ∙ ap₂ (λ n s. Past.past rules g n s cs) step (same_next w c v)
  where
    same_noted : (c.guest ≡ g) → noted p c.request (reply w c.guest c.request) ≡ Past.noted p (Cells.view (state_of w) g) (Rules.act rules (state_of w) c)
    same_noted e =
        sym (noted_step p w c.guest c.request)
        ∙ ap₂ (λ v a. Past.noted p v a) (ap (view w) e ∙ sym (view_slots w g)) (sym (same_act w c))

    step : cond (eqb c.guest g) (noted p c.request (reply w c.guest c.request)) p
        ≡ cond (eqb c.guest g) (Past.noted p (Cells.view (state_of w) g) (Rules.act rules (state_of w) c)) p
    step = go (eqb c.guest g) refl
      where
        go : (b : Bool) → eqb c.guest g ≡ b
            → cond b (noted p c.request (reply w c.guest c.request)) p ≡ cond b (Past.noted p (Cells.view (state_of w) g) (Rules.act rules (state_of w) c)) p
        go true e = same_noted (eqb-true c.guest g e)
        go false e = refl
