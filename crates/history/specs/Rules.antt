-- The interface between the requests and the theorems: how a call becomes an act, and what its caller sees.
-- Whatever the layouts and checks are, a device that fits `Rules` has the theorems of this crate.
-- Assumes nothing.
use Rattle.std.specs.Prelude.{◌≡◌, cond, ℕ, eqb}
use Rattle.std.proofs.Math.Path.{refl}
use Rattle.std.proofs.Common.{◌∙◌}
use mathlib.Core.List.{List, [], ◌∷◌}
use Rattle.model.specs.View.{Setting, View}
use Rattle.history.specs.Cells.{State, view, full, guest_of}
use Rattle.model.specs.Act.{Act, answer_of}
use Rattle.history.specs.Apply.{gate, apply, view_after}
use Rattle.model.specs.Calls as Calls
use Rattle.history.specs.Lawful.{Lawful, Ready, ready}
use Rattle.history.specs.Views.{own, other}
use Rattle.history.specs.Invariant.{Inv, inv_apply, shares_apply, setting_apply}

pub record Rules : Type 1 where
  -- a call's arguments besides the guest
  pub Request : Type 0
  -- all that the caller gets: answer, writable bytes, numbers, parts and key
  pub Outcome : Type 0
  -- what the request asks for, by every check but the room
  pub decide : Setting → ℕ → View → Request → Act
  -- what the caller gets, by the answer of the act after the room check
  pub outcome : ℕ → View → Request → ℕ → Outcome
  pub lawful : (k : Setting) (g : ℕ) (v : View) (q : Request) → Lawful k g v (decide k g v q)

module _ (R : Rules) where
  abbrev pub Call : Type 0
  Call = Calls.Call R.Request

  -- by every check but the room; then with it
  abbrev pub wish : State → Call → Act
  wish s c = R.decide s.setting c.guest (view s c.guest) c.request

  abbrev pub act : State → Call → Act
  act s c = gate (full s c.guest) (wish s c)

  unfoldable pub next : State → Call → State
  next s c = apply s c.guest (act s c)

  abbrev pub outcome_of : State → Call → R.Outcome
  outcome_of s c = R.outcome c.guest (view s c.guest) c.request (answer_of (act s c))

  -- the state after a list of calls
  unfoldable pub run : State → List Call → State
  run s [] = s
  run s (c ∷ cs) = run (next s c) cs

  -- what guest g gets, call by call
  unfoldable pub outcomes : ℕ → State → List Call → List R.Outcome
  outcomes g s [] = []
  outcomes g s (c ∷ cs) = cond (eqb c.guest g) (outcome_of s c ∷ outcomes g (next s c) cs) (outcomes g (next s c) cs)

  -- ---- one call

  pub ready_act : (s : State) (c : Call) → Ready s c.guest (act s c)
  ready_act s c = ready s c.guest (wish s c) (R.lawful s.setting c.guest (view s c.guest) c.request)

  pub inv_next : (s : State) (c : Call) → Inv s → Inv (next s c)
  unfolding next
  inv_next s c v = inv_apply s c.guest (act s c) v (ready_act s c)

  pub own_next : (s : State) (c : Call) → Inv s → view (next s c) c.guest ≡ view_after (view s c.guest) (act s c)
  unfolding next
  own_next s c v = own s c.guest (act s c) v.eight v.good v.unique (ready_act s c)

  pub other_next : (s : State) (c : Call) (g : ℕ) → (g ≡ c.guest → ⊥) → view (next s c) g ≡ view s g
  unfolding next
  other_next s c g d = other s c.guest (act s c) g (ready_act s c) d

  pub setting_next : (s : State) (c : Call) → (next s c).setting ≡ s.setting
  unfolding next
  setting_next s c = setting_apply s c.guest (act s c)

  -- ---- lists of calls

  pub inv_run : (s : State) (cs : List Call) → Inv s → Inv (run s cs)
  unfolding run
  inv_run s [] v = v
  inv_run s (c ∷ cs) v = inv_run (next s c) cs (inv_next s c v)

  pub setting_run : (s : State) (cs : List Call) → (run s cs).setting ≡ s.setting
  unfolding run
  setting_run s [] = refl
  setting_run s (c ∷ cs) = setting_run (next s c) cs ∙ setting_next s c

  pub shares_run : (s : State) (cs : List Call) (g : ℕ) → Inv s → ((guest_of (run s cs) g).reserve ≡ (guest_of s g).reserve) × ((guest_of (run s cs) g).cap ≡ (guest_of s g).cap)
  unfolding run next
  shares_run s [] g v = (refl, refl)
  shares_run s (c ∷ cs) g v =
      let h = shares_run (next s c) cs g (inv_next s c v) in
      let k = shares_apply s c.guest (act s c) v (ready_act s c) g in
      (h.0 ∙ k.0, h.1 ∙ k.1)
