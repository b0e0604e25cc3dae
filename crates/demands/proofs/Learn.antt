-- Ticket K7: what a guest that makes the same calls in two histories from the same set-up can learn of the others.
-- Assumes nothing.
use Rattle.std.specs.Prelude.{◌≡◌, refl, ◌⊎◌, Bool, true, false, not, List, [], ◌∷◌, ℕ, ◌<◌}
use Rattle.std.proofs.Common.{sym, ap, ◌∙◌, subst, inl, inr, arith}
use Rattle.model.specs.Answer.{ok, nospc}
use Rattle.model.specs.Session.{World, guest_at}
use Rattle.model.specs.View.{setting, view, full}
use Rattle.model.specs.Setup.{set_up}
use Rattle.model.specs.Device.{Request, Control, reply, next}
use Rattle.model.specs.Calls.{Call, run, only}
use Rattle.history.specs.Cells as Cells
use Rattle.history.specs.Cells.{State}
use Rattle.history.specs.Apply.{Creates}
use Rattle.history.specs.Invariant.{Inv}
use Rattle.history.specs.Rules as Rules
use Rattle.history.proofs.Learn as Learn
use Rattle.history.proofs.Learn.{Parting}
use Rattle.history.proofs.Alone.{Modest}
use Rattle.history.proofs.Demand.{demand}
use Rattle.follows.specs.Follows.{state_of, holds_slots}
use Rattle.demands.specs.Statement.{Within, RefusedForRoom, Same, FirstDifference, Learns}
use Rattle.demands.specs.Instance.{decide, rules}
use Rattle.demands.specs.Start.{fresh, started}
use Rattle.demands.specs.Steps.{same_wish, same_next, same_outcomes, inv_step, run_view, run_full, run_wish}
use Rattle.demands.specs.Formed.{control_formed, creates_control, create_answer}

-- ---- a create that only the room can refuse

refused_for_room : (w : World) (g : ℕ) (r b : List ℕ) → Creates (decide (setting w) g (view w g) (Control r b)) → full w.table g ≡ true → RefusedForRoom w g r b
refused_for_room w g r b h e =
    let p = control_formed w g r b h in
    let n : (reply w g (Control r b)).answer ≡ nospc = create_answer w g r b true h e in
    record { formed = p.0; numbers = p.1; crowded = e; refused = λ z. omega (arith, n, z) }

-- ---- two histories

module _ (g : ℕ) (w x : World) (v : Inv (state_of w)) (y : Inv (state_of x)) where
  same : (cs ds : List (Call Request)) → Learn.Same rules g (state_of w) (state_of x) cs ds → Same g w x cs ds
  same cs ds p = record {
    got = same_outcomes g w cs v ∙ p.got ∙ sym (same_outcomes g x ds y);
    kept = sym (run_view w cs v g) ∙ p.left.seen ∙ run_view x ds y g;
  }

  module _ (cs ds : List (Call Request)) where
    differs : (r b : List ℕ) → Parting rules g (state_of w) (state_of x) cs ds (Control r b) → FirstDifference g w x cs ds
    differs r b p = record {
      readable = r;
      writable = b;
      here = p.here;
      there = p.there;
      create = (control_formed u g r b here).0.0;
      room = room (full z.table g) refl (sym (run_full w p.here.before v g) ∙ p.room ∙ ap not (run_full x p.there.before y g));
      before = same p.here.before p.there.before p.before;
    }
      where
        u : World
        u = run w p.here.before

        z : World
        z = run x p.there.before

        c : Call Request
        c = record { guest = g; request = Control r b }

        here : Creates (decide (setting u) g (view u g) (Control r b))
        here = subst Creates (run_wish w p.here.before v c) p.creates

        there : Creates (decide (setting z) g (view z g) (Control r b))
        there = subst Creates (Learn.same_wish rules _ _ c p.before.left ∙ run_wish x p.there.before y c) p.creates

        room : (f : Bool) → full z.table g ≡ f → full u.table g ≡ not f
            → (RefusedForRoom u g r b × ((reply z g (Control r b)).answer ≡ ok)) ⊎ (RefusedForRoom z g r b × ((reply u g (Control r b)).answer ≡ ok))
        room true e d = inr (refused_for_room z g r b there e, create_answer u g r b false here d)
        room false e d = inl (refused_for_room u g r b here d, create_answer z g r b false there e)

    learns_here : Learn.Learns rules g (state_of w) (state_of x) cs ds → Learns g w x cs ds
    learns_here (inl p) = inl (same cs ds p)
    learns_here (inr p) =
        let c : Call Request = record { guest = g; request = p.0 } in
        inr (creates_control _ (run w p.1.here.before) g p.0 (λ r b e. differs r b (subst (Parting rules g (state_of w) (state_of x) cs ds) e p.1))
        (subst Creates (run_wish w p.1.here.before v c) p.1.creates))

-- ---- a guest that stays within its reserve

modest : (g : ℕ) (w : World) (cs : List (Call Request)) → Inv (state_of w) → Within g w cs → Modest rules g (state_of w) cs
unfolding Within Modest
modest g w [] v h = tt
modest g w (c ∷ cs) v h = (below, subst (λ (s : State). Modest rules g s cs) (same_next w c v) (modest g (next w c.guest c.request) cs (inv_step w c v) h.1))
  where
    below : c.guest ≡ g → Creates (Rules.wish rules (state_of w) c) → Cells.holds (state_of w) g < (guest_at w.table g).reserve
    below e k =
        let d = subst (λ (j : ℕ). Creates (decide (setting w) j (view w j) c.request)) e (subst Creates (same_wish w c) k) in
        omega (arith, holds_slots w g, creates_control _ w g c.request (λ r b q. h.0 e r b q (control_formed w g r b (subst (λ (x : Request). Creates (decide (setting w) g (view w g) x)) q d)).0) d)

-- ---- from the same set-up

-- guest g makes the same calls in cs and in ds
module _ (config reserves caps store : List ℕ) (g : ℕ) (cs ds : List (Call Request)) (e : only g cs ≡ only g ds) where
  abbrev w : World
  w = set_up config reserves caps store

  v : Inv (state_of w)
  v = started config reserves caps store

  pub learns : Learns g (set_up config reserves caps store) (set_up config reserves caps store) cs ds
  learns = learns_here g w w v v cs ds (Learn.learn rules g (state_of w) (state_of w) cs ds (record { left = v; right = v; setting = refl; seen = refl }) e)

  -- and one that stays within its reserve learns nothing
  pub learns_nothing : Within g (set_up config reserves caps store) cs → Same g (set_up config reserves caps store) (set_up config reserves caps store) cs ds
  learns_nothing h = same g w w v v cs ds ((demand rules (state_of w) cs (fresh config reserves caps store)).same g ds e (modest g w cs v h))
