-- A guest that stays within its reserve gets the same whatever the others do.
-- Assumes nothing.
use Rattle.std.specs.Prelude.{◌≡◌, true, false, ℕ, ◌<◌}
use Rattle.std.proofs.Math.Path.{refl, ap}
use Rattle.std.proofs.Common.{sym, ◌∙◌, subst, inl, inr, arith, ne_eqb}
use Rattle.std.proofs.Math.Bool.{not}
use mathlib.Core.List.{List, [], ◌∷◌, ◌++◌}
use Rattle.std.proofs.lemmas.Bool.{lt-leb}
use Rattle.lists.specs.Test.{false_true}
use Rattle.lists.specs.Seek.{count, count_not}
use Rattle.lists.specs.Sum.{sum_at}
use Rattle.history.specs.Cells.{State, view, guest_of, holds, unmet, full, is_free, is_held}
use Rattle.model.specs.View.{Setting, View, no_room}
use Rattle.model.specs.Calls.{only}
use Rattle.model.specs.Act.{Act, refuse, pass, attach, create, destroy}
use Rattle.history.specs.Apply.{Creates}
use Rattle.history.specs.Lawful.{Lawful}
use Rattle.history.specs.Invariant.{Inv, below_eight}
use Rattle.history.specs.Rules.{Rules, Call, wish, next, run}
use Rattle.history.proofs.Learn.{Alike, Same, Parting, Learns, call, same_wish, learn}

-- ---- room for a guest below its reserve

roomy : (s : State) (g : ℕ) → Inv s → g < 8 → holds s g < (guest_of s g).reserve → full s g ≡ false
unfolding full no_room
roomy s g v b h =
    rw (
      lt-leb (guest_of s g).cap (holds s g) (omega (arith, v.shares g)),
      lt-leb (guest_of s g).reserve (holds s g) h,
      ne_eqb (count is_free s.cells) 0 (λ e. omega (arith, v.size, v.spare, count_not is_held s.cells, sum_at 8 g (unmet s) b)),
    )

creates_attached : (k : Setting) (g : ℕ) (v : View) (a : Act) → Lawful k g v a → Creates a → v.guest.attached ≡ true
creates_attached k g v (refuse n) w h = absurd h
creates_attached k g v pass w h = absurd h
creates_attached k g v attach w h = absurd h
creates_attached k g v (create e) w h = w.attached
creates_attached k g v (destroy n) w h = absurd h

module _ (R : Rules) where
  -- each create of guest g comes while it holds fewer than its reserve
  unfoldable pub Modest : ℕ → State → List (Call R) → Type 0
  Modest g s [] = Unit {0}
  Modest g s (c ∷ cs) = (c.guest ≡ g → Creates (wish R s c) → holds s g < (guest_of s g).reserve) × Modest g (next R s c) cs

  -- a create that passes every other check, from a guest below its reserve, finds room
  pub grant : (s : State) (c : Call R) → Inv s → Creates (wish R s c) → holds s c.guest < (guest_of s c.guest).reserve → full s c.guest ≡ false
  grant s c v w h =
      let g = c.guest in
      roomy s g v (below_eight s g v (creates_attached s.setting g (view s g) (wish R s c) (R.lawful s.setting g (view s g) c.request) w)) h

  modest_at : (g : ℕ) (s : State) (bs cs : List (Call R)) → Modest g s (bs ++ cs) → Modest g (run R s bs) cs
  unfolding Modest run
  modest_at g s [] cs m = m
  modest_at g s (b ∷ bs) cs m = modest_at g (next R s b) bs cs m.1

  -- beside any other history with the same calls of guest g: it finds room in both, so they never part
  pub modest_same : (g : ℕ) (s t : State) (cs ds : List (Call R)) → Alike R g s t → only g cs ≡ only g ds → Modest g s cs → Same R g s t cs ds
  unfolding Modest
  modest_same g s t cs ds a e m = go (learn R g s t cs ds a e)
    where
      parted : (q : R.Request) → Parting R g s t cs ds q → ⊥
      parted q p =
          let u = run R s p.here.before in
          let x = run R t p.there.before in
          let c = call R g q in
          let k = p.before.left in
          let h = (modest_at g s p.here.before (c ∷ p.here.after) (subst (Modest g s) p.here.whole m)).0 refl p.creates in
          let room = grant u c k.left p.creates h in
          let there = grant x c k.right (subst Creates (same_wish R u x c k) p.creates) (subst (λ (v : View). v.holds < v.guest.reserve) k.seen h) in
          false_true (sym room ∙ p.room ∙ ap not there)

      go : Learns R g s t cs ds → Same R g s t cs ds
      go (inl p) = p
      go (inr p) = absurd (parted p.0 p.1)
