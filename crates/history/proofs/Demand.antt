-- Demand 3, as one claim about any list of calls after a set-up.
-- Assumes nothing.
use Rattle.std.specs.Prelude.{◌≡◌, refl, false, List, ℕ, ◌≤◌, ◌<◌}
use Rattle.std.proofs.Common.{arith}
use Rattle.history.specs.Cells.{State, view, guest_of, holds, total, owns, full}
use Rattle.model.specs.Session.{slot_count}
use Rattle.model.specs.Calls.{only, begun}
use Rattle.history.specs.Good.{free_owns}
use Rattle.history.specs.Invariant.{Inv, Fresh, inv_fresh, none_held}
use Rattle.history.specs.Rules.{Rules, Call, wish, run, inv_run, shares_run}
use Rattle.history.specs.Apply.{Creates}
use Rattle.history.proofs.Learn.{Same}
use Rattle.history.proofs.Alone.{Modest, grant, modest_same}
use Rattle.history.specs.Past.{Told, past}
use Rattle.history.proofs.Past.{told}

module _ (R : Rules) (s : State) where
  pub record Demand (cs : List (Call R)) : Type 0 where
    -- no guest holds more than its cap, nor all together more than 128
    pub caps : (g : ℕ) → holds (run R s cs) g ≤ (guest_of s g).cap
    pub bound : total (run R s cs) ≤ slot_count
    -- a create that comes next, passes every other check and finds its guest below its reserve finds room
    pub grants : (c : Call R) → Creates (wish R (run R s cs) c) → holds (run R s cs) c.guest < (guest_of s c.guest).reserve → full (run R s cs) c.guest ≡ false
    -- a guest that keeps within its reserve gets the same in every list with the same calls of its own
    pub same : (g : ℕ) (ds : List (Call R)) → only g cs ≡ only g ds → Modest R g s cs → Same R g s s cs ds
    -- what a guest holds, its last number and whether it is attached, by its granted calls since its last granted attach
    pub history : (g : ℕ) → Told (past R g (begun false) s cs) (view (run R s cs) g)

  pub demand : (cs : List (Call R)) → Fresh s → Demand cs
  demand cs f = record {
    caps = λ g. omega (arith, v.caps g, (shares g).1);
    bound = omega (arith, v.spare);
    grants = λ c w h. grant R (run R s cs) c v w (omega (arith, h, (shares c.guest).0));
    same = λ g ds e m. modest_same R g s s cs ds (record { left = i; right = i; setting = refl; seen = refl }) e m;
    history = λ g. told R s cs g (begun false) i (record { attached = f.unattached g; holds = omega (arith, none_held s (owns g) f (free_owns g)); last = f.unnumbered g; numbers = refl });
  }
    where
      i : Inv s
      i = inv_fresh s f

      v : Inv (run R s cs)
      v = inv_run R s cs i

      shares : (g : ℕ) → ((guest_of (run R s cs) g).reserve ≡ (guest_of s g).reserve) × ((guest_of (run R s cs) g).cap ≡ (guest_of s g).cap)
      shares g = shares_run R s cs g i
