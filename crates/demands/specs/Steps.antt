-- Lists of calls on tables and key stores are the theorems' lists of calls.
-- Assumes nothing.
use Rattle.std.specs.Prelude.{◌≡◌, refl, cond, List, [], ◌∷◌, ℕ, eqb}
use Rattle.std.proofs.Common.{sym, ap, ap₂, ◌∙◌, subst}
use Rattle.model.specs.Session.{World}
use Rattle.model.specs.View.{setting, view, full}
use Rattle.model.specs.Act.{answer_of}
use Rattle.model.specs.Device.{Request, outcome, checks, act, reply, next}
use Rattle.model.specs.Calls.{Call, run, outcomes}
use Rattle.laws.specs.Effect.{act_first}
use Rattle.history.specs.Apply.{gate}
use Rattle.history.specs.Cells as Cells
use Rattle.history.specs.Cells.{State}
use Rattle.history.specs.Apply as Apply
use Rattle.history.specs.Lawful.{Ready}
use Rattle.history.specs.Invariant.{Inv}
use Rattle.history.specs.Rules as Rules
use Rattle.history.specs.Rules.{ready_act, inv_next}
use Rattle.follows.specs.Follows.{state_of, full_slots, view_slots}
use Rattle.follows.proofs.Follows.{follows}
use Rattle.demands.specs.Instance.{decide, decided, rules}

-- the state after a call
abbrev pub next_state : State → Call Request → State
next_state s c = Rules.next rules s c

-- what a call asks for, by every check but the room
pub same_wish : (w : World) (c : Call Request) → Rules.wish rules (state_of w) c ≡ decide (setting w) c.guest (view w c.guest) c.request
same_wish w c = ap (λ v. decide (setting w) c.guest v c.request) (view_slots w c.guest)

pub same_act : (w : World) (c : Call Request) → Rules.act rules (state_of w) c ≡ act w c.guest c.request
unfolding act checks
same_act w c =
    ap₂ (λ f v. gate f (decide (setting w) c.guest v c.request)) (full_slots w c.guest) (view_slots w c.guest)
    ∙ decided (setting w) c.guest (view w c.guest) (full w.table c.guest) c.request

pub same_reply : (w : World) (c : Call Request) → Rules.outcome_of rules (state_of w) c ≡ reply w c.guest c.request
unfolding reply
same_reply w c =
    ap₂ (λ v n. outcome c.guest v c.request n) (view_slots w c.guest)
    (ap answer_of (same_act w c) ∙ act_first w c.guest c.request)

pub same_next : (w : World) (c : Call Request) → Inv (state_of w) → state_of (next w c.guest c.request) ≡ next_state (state_of w) c
unfolding next Rules.next
same_next w c v =
    let f = subst (Ready (state_of w) c.guest) (same_act w c) (ready_act rules (state_of w) c) in
    follows w c.guest (act w c.guest c.request) v f ∙ ap (Apply.apply (state_of w) c.guest) (sym (same_act w c))

pub inv_step : (w : World) (c : Call Request) → Inv (state_of w) → Inv (state_of (next w c.guest c.request))
inv_step w c v = subst Inv (sym (same_next w c v)) (inv_next rules (state_of w) c v)

pub same_run : (w : World) (cs : List (Call Request)) → Inv (state_of w) → state_of (run w cs) ≡ Rules.run rules (state_of w) cs
unfolding run Rules.run
same_run w [] v = refl
same_run w (c ∷ cs) v = same_run (next w c.guest c.request) cs (inv_step w c v) ∙ ap (λ s. Rules.run rules s cs) (same_next w c v)

pub same_outcomes : (g : ℕ) (w : World) (cs : List (Call Request)) → Inv (state_of w) → outcomes g w cs ≡ Rules.outcomes rules g (state_of w) cs
unfolding outcomes Rules.outcomes
same_outcomes g w [] v = refl
same_outcomes g w (c ∷ cs) v =
    let k = same_outcomes g (next w c.guest c.request) cs (inv_step w c v) ∙ ap (λ s. Rules.outcomes rules g s cs) (same_next w c v) in
    ap₂ (λ o l. cond (eqb c.guest g) (o ∷ l) l) (sym (same_reply w c)) k

-- ---- after a list of calls

module _ (w : World) (cs : List (Call Request)) (v : Inv (state_of w)) where
  abbrev after : State
  after = Rules.run rules (state_of w) cs

  pub run_view : (g : ℕ) → Cells.view after g ≡ view (run w cs) g
  run_view g = ap (λ s. Cells.view s g) (sym (same_run w cs v)) ∙ view_slots (run w cs) g

  pub run_full : (g : ℕ) → Cells.full after g ≡ full (run w cs).table g
  run_full g = ap (λ s. Cells.full s g) (sym (same_run w cs v)) ∙ full_slots (run w cs) g

  pub run_wish : (c : Call Request) → Rules.wish rules after c ≡ decide (setting (run w cs)) c.guest (view (run w cs) c.guest) c.request
  run_wish c = ap (λ s. Rules.wish rules s c) (sym (same_run w cs v)) ∙ same_wish (run w cs) c
