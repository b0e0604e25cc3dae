-- The table says of a guest what the history says.
-- Assumes nothing.
use Rattle.std.specs.Prelude.{◌≡◌, refl, ◌⊎◌, cond, ℕ, ◌<◌, eqb}
use Rattle.std.proofs.Common.{sym, subst, inl, inr, arith, eq-eqb, ne_eqb}
use mathlib.Core.List.{List, [], ◌∷◌}
use Rattle.lists.specs.Test.{same}
use Rattle.lists.specs.Seek.{count_swap}
use Rattle.history.specs.Cells.{State, view, guest_of, holds, owns, matches, no_cell}
use Rattle.model.specs.Act.{Act, refuse, pass, attach, create, destroy, restarted, numbered}
use Rattle.history.specs.Apply.{view_after}
use Rattle.model.specs.Calls.{Past}
use Rattle.history.specs.Lawful.{Ready, Found}
use Rattle.history.specs.Views.{found_owns}
use Rattle.history.specs.Invariant.{Inv}
use Rattle.history.specs.Rules.{Rules, Call, act, next, run, inv_next, own_next, other_next, ready_act}
use Rattle.history.specs.Past.{noted, Told, past}

-- ---- one act

-- a guest with a live session holds something
holds_one : (s : State) (g n : ℕ) → Found s g n → 0 < holds s g
holds_one s g n f =
    let k = rw (found_owns s g n f) at (count_swap (matches s.setting (guest_of s g) g n) (owns g) no_cell f.cell s.cells f.found) in
    omega arith

told_after : (s : State) (g : ℕ) (a : Act) (p : Past) → Ready s g a → Told p (view s g) → Told (noted p (view s g) a) (view_after (view s g) a)
unfolding noted view_after restarted numbered
told_after s g (refuse n) p f t = t
told_after s g pass p f t = t
told_after s g attach p f t = record { attached = refl; holds = omega arith; last = refl; numbers = refl }
told_after s g (create e) p f t = record { attached = t.attached; holds = omega (arith, t.holds); last = refl; numbers = omega (arith, t.last, t.numbers) }
told_after s g (destroy n) p f t = record { attached = t.attached; holds = omega (arith, t.holds, holds_one s g n f); last = t.last; numbers = t.numbers }

-- ---- lists of calls

module _ (R : Rules) where
  pub told : (s : State) (cs : List (Call R)) (g : ℕ) (p : Past) → Inv s → Told p (view s g) → Told (past R g p s cs) (view (run R s cs) g)
  unfolding run past
  told s [] g p v t = t
  told s (c ∷ cs) g p v t = told (next R s c) cs g (cond (eqb c.guest g) (noted p (view s g) (act R s c)) p) (inv_next R s c v) (go (same c.guest g))
    where
      go : (c.guest ≡ g) ⊎ (c.guest ≡ g → ⊥) → Told (cond (eqb c.guest g) (noted p (view s g) (act R s c)) p) (view (next R s c) g)
      go (inl e) =
          let w = told_after s c.guest (act R s c) p (ready_act R s c) (subst (λ (h : ℕ). Told p (view s h)) (sym e) t) in
          rw (eq-eqb c.guest g e) (subst (λ (h : ℕ). Told (noted p (view s h) (act R s c)) (view (next R s c) h)) e (rw (own_next R s c v) w))
      go (inr d) = rw (ne_eqb c.guest g d, other_next R s c g (λ e. d (sym e))) t
