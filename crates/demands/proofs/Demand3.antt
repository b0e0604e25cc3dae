-- Demand 3, of every list of calls after any set-up, good or refused.
-- Assumes nothing.
use Rattle.std.specs.Prelude.{◌≡◌, refl, Bool, true, false, cond, List, [], ◌∷◌, ℕ, ◌≤◌, ◌<◌, eqb}
use Rattle.std.proofs.Common.{sym, ap, ◌∙◌, subst, arith}
use Rattle.model.specs.Answer.{ok}
use Rattle.model.specs.Session.{last_number, World, guest_at}
use Rattle.model.specs.View.{view, holds}
use Rattle.model.specs.Setup.{set_up}
use Rattle.model.specs.Device.{Request, Control, reply}
use Rattle.model.specs.Calls.{Call, Past, begun, past_of, run, only, WellFormed}
use Rattle.history.specs.Cells as Cells
use Rattle.history.specs.Invariant.{Inv}
use Rattle.history.specs.Rules as Rules
use Rattle.history.specs.Apply.{Creates}
use Rattle.history.specs.Past.{Told}
use Rattle.history.proofs.Demand.{Demand, demand}
use Rattle.follows.specs.Follows.{state_of, holds_slots, total_slots}
use Rattle.demands.specs.Statement.{Demand3}
use Rattle.demands.specs.Instance.{rules}
use Rattle.demands.specs.Start.{fresh, started}
use Rattle.demands.specs.Steps.{same_run, run_view, run_full, run_wish}
use Rattle.demands.specs.Formed.{formed_creates, create_answer}
use Rattle.demands.proofs.Learn.{learns_nothing}
use Rattle.demands.proofs.History.{same_past}

-- the calls of one guest are its own
only_only : (g : ℕ) (cs : List (Call Request)) → only g (only g cs) ≡ only g cs
unfolding only
only_only g [] = refl
only_only g (c ∷ cs) = go (eqb c.guest g) refl (only_only g cs)
  where
    go : (b : Bool) → eqb c.guest g ≡ b → only g (only g cs) ≡ only g cs → only g (cond b (c ∷ only g cs) (only g cs)) ≡ cond b (c ∷ only g cs) (only g cs)
    go true e h = rw e (ap (λ (l : List (Call Request)). c ∷ l) h)
    go false e h = h

pub demand3 : (config reserves caps store : List ℕ) (cs : List (Call Request)) → Demand3 (set_up config reserves caps store) cs
demand3 config reserves caps store cs = record {
  caps = λ g. omega (arith, d.caps g, held g);
  bound = omega (arith, d.bound, total_slots t, ap Cells.total state);
  grants = λ g r b a f n h. granted g r b f (λ e. n (omega (arith, e))) (omega (arith, h));
  same = λ g h. (learns_nothing config reserves caps store g cs (only g cs) (sym (only_only g cs)) h).got;
  history = λ g. omega (arith, held g, (told g).holds);
  numbers = λ g. (told g).numbers;
  range = λ g. omega (arith, (told_here g).last, kept.numbers g);
  attached = λ g. (told_here g).attached;
  last = λ g. (told_here g).last;
}
  where
    w : World
    w = set_up config reserves caps store

    t : World
    t = run w cs

    v : Inv (state_of w)
    v = started config reserves caps store

    d : Demand rules (state_of w) cs
    d = demand rules (state_of w) cs (fresh config reserves caps store)

    state : state_of t ≡ Rules.run rules (state_of w) cs
    state = same_run w cs v

    held : (g : ℕ) → Cells.holds (Rules.run rules (state_of w) cs) g ≡ holds t.table g
    held g = ap (λ s. Cells.holds s g) (sym state) ∙ holds_slots t g

    told : (g : ℕ) → Told (past_of g w cs) (Cells.view (Rules.run rules (state_of w) cs) g)
    told g = subst (λ (p : Past). Told p (Cells.view (Rules.run rules (state_of w) cs) g)) (sym (same_past g (begun false) w cs v)) (d.history g)

    told_here : (g : ℕ) → Told (past_of g w cs) (view t g)
    told_here g = subst (Told (past_of g w cs)) (run_view w cs v g) (told g)

    kept : Inv (state_of t)
    kept = subst Inv (sym state) (Rules.inv_run rules (state_of w) cs v)

    -- a guest whose last number is not the last of all has one left
    left : (g : ℕ) → ((past_of g w cs).last ≡ last_number → ⊥) → (guest_at t.table g).last < last_number
    left g n = below (guest_at t.table g).last (kept.numbers g) (λ e. n (sym (told_here g).last ∙ e))
      where
        below : (m : ℕ) → m ≤ last_number → (m ≡ last_number → ⊥) → m < last_number
        below m h d = omega arith

    granted : (g : ℕ) (r b : List ℕ) → WellFormed t g r b → ((past_of g w cs).last ≡ last_number → ⊥) → holds t.table g < (guest_at w.table g).reserve
        → (reply t g (Control r b)).answer ≡ ok
    granted g r b f n h =
        let c : Call Request = record { guest = g; request = Control r b } in
        let m = formed_creates t g r b f (left g n) in
        let room = d.grants c (subst Creates (sym (run_wish w cs v c)) m) (omega (arith, h, held g)) in
        create_answer t g r b false m (sym (run_full w cs v g) ∙ room)
