-- What a guest can learn of the others: of its create whether there is room, and nothing else.
-- Assumes nothing.
use Rattle.std.proofs.Math.Path.{◌≡◌, refl, sym, ap, ap₂, subst}
use Rattle.std.proofs.Common.{◌∙◌}
use Rattle.std.specs.Prelude.{◌⊎◌, Bool, true, false, not, eqb}
use Rattle.std.proofs.Math.Logic.{inl, inr}
use Rattle.std.proofs.Math.Bool.{cond}
use mathlib.Core.List.{List, [], ◌∷◌, ◌++◌, append_assoc}
use Prim.Native.Nat.{ℕ}
use native.Mathlib.Omega.{arith}
use borrow.Author.Tests.{eq-eqb, ne_eqb}
use Rattle.lists.specs.Test.{same}
use Rattle.model.specs.Answer.{ok, nospc}
use Rattle.model.specs.Act.{Act, refuse, pass, attach, create, destroy, answer_of}
use Rattle.model.specs.Calls.{At, only}
use Rattle.history.specs.Cells.{State, view, full}
use Rattle.history.specs.Apply.{gate, Creates, view_after}
use Rattle.history.specs.Invariant.{Inv}
use Rattle.history.specs.Rules.{Rules, Call, wish, act, next, run, outcomes, outcome_of, inv_next, own_next, other_next, setting_next}

-- ---- the room check

-- it decides for a create alone
same_gate : (a : Act) (e f : Bool) → (gate e a ≡ gate f a) ⊎ (Creates a × (e ≡ not f))
same_gate (refuse n) e f = inl refl
same_gate pass e f = inl refl
same_gate attach e f = inl refl
same_gate (create x) true true = inl refl
same_gate (create x) true false = inr (tt, refl)
same_gate (create x) false true = inr (tt, refl)
same_gate (create x) false false = inl refl
same_gate (destroy n) e f = inl refl

-- whose answer is by the room alone, once it passed every other check
pub gate_answer : (a : Act) (f : Bool) → Creates a → answer_of (gate f a) ≡ cond f nospc ok
gate_answer (refuse n) f h = absurd h
gate_answer pass f h = absurd h
gate_answer attach f h = absurd h
gate_answer (create e) true h = refl
gate_answer (create e) false h = refl
gate_answer (destroy n) f h = absurd h

module _ (R : Rules) where
  -- two states that guest g cannot tell apart but by the room
  pub record Alike (g : ℕ) (s t : State) : Type 0 where
    pub left : Inv s
    pub right : Inv t
    pub setting : s.setting ≡ t.setting
    pub seen : view s g ≡ view t g

  -- guest g got the same over cs from s and over ds from t, and cannot tell apart what they left
  pub record Same (g : ℕ) (s t : State) (cs ds : List (Call R)) : Type 0 where
    pub got : outcomes R g s cs ≡ outcomes R g t ds
    pub left : Alike g (run R s cs) (run R t ds)

  abbrev pub call : ℕ → R.Request → Call R
  call g q = record { guest = g; request = q }

  -- it did so up to its request q, a create that finds room in one and none in the other
  pub record Parting (g : ℕ) (s t : State) (cs ds : List (Call R)) (q : R.Request) : Type 0 where
    pub here : At g q cs
    pub there : At g q ds
    pub before : Same g s t here.before there.before
    pub creates : Creates (wish R (run R s here.before) (call g q))
    pub room : full (run R s here.before) g ≡ not (full (run R t there.before) g)

  abbrev pub Learns : ℕ → State → State → List (Call R) → List (Call R) → Type 0
  Learns g s t cs ds = Same g s t cs ds ⊎ ((q : R.Request) × Parting g s t cs ds q)

  -- ---- one call

  flip : (g : ℕ) (s t : State) → Alike g s t → Alike g t s
  flip g s t a = record { left = a.right; right = a.left; setting = sym a.setting; seen = sym a.seen }

  -- it asks for the same in both, by every check but the room
  pub same_wish : (s t : State) (c : Call R) → Alike c.guest s t → wish R s c ≡ wish R t c
  same_wish s t c a i = R.decide (a.setting i) c.guest (a.seen i) c.request

  -- another guest's, in one of the two
  skip : (g : ℕ) (s t : State) (c : Call R) → Alike g s t → (c.guest ≡ g → ⊥) → Same g s t (c ∷ []) []
  unfolding outcomes run
  skip g s t c a d = record {
    got = rw (ne_eqb c.guest g d) refl;
    left = record { left = inv_next R s c a.left; right = a.right; setting = setting_next R s c ∙ a.setting; seen = other_next R s c g (λ e. d (sym e)) ∙ a.seen };
  }

  skip_there : (g : ℕ) (s t : State) (d : Call R) → Alike g s t → (d.guest ≡ g → ⊥) → Same g s t [] (d ∷ [])
  skip_there g s t d a n = let p = skip g t s d (flip g s t a) n in record { got = sym p.got; left = flip g (run R t (d ∷ [])) (run R s []) p.left }

  -- the guest's own, in both
  step : (s t : State) (c : Call R) → Alike c.guest s t → act R s c ≡ act R t c → Same c.guest s t (c ∷ []) (c ∷ [])
  unfolding outcomes run
  step s t c a e = record {
    got = rw (eq-eqb c.guest c.guest refl) (λ i. R.outcome c.guest (a.seen i) c.request (answer_of (e i)) ∷ []);
    left = record {
      left = inv_next R s c a.left;
      right = inv_next R t c a.right;
      setting = setting_next R s c ∙ a.setting ∙ sym (setting_next R t c);
      seen = own_next R s c a.left ∙ ap₂ view_after a.seen e ∙ sym (own_next R t c a.right);
    };
  }

  -- ---- calls, and more calls

  run_join : (s : State) (bs cs : List (Call R)) → run R s (bs ++ cs) ≡ run R (run R s bs) cs
  unfolding run
  run_join s [] cs = refl
  run_join s (b ∷ bs) cs = run_join (next R s b) bs cs

  outcomes_join : (g : ℕ) (s : State) (bs cs : List (Call R)) → outcomes R g s (bs ++ cs) ≡ outcomes R g s bs ++ outcomes R g (run R s bs) cs
  unfolding outcomes run
  outcomes_join g s [] cs = refl
  outcomes_join g s (b ∷ bs) cs = ap (λ (l : List R.Outcome). cond (eqb b.guest g) (outcome_of R s b ∷ l) l) (outcomes_join g (next R s b) bs cs) ∙ go (eqb b.guest g)
    where
      rest : List R.Outcome
      rest = outcomes R g (next R s b) bs

      more : List R.Outcome
      more = outcomes R g (run R (next R s b) bs) cs

      go : (t : Bool) → cond t (outcome_of R s b ∷ rest ++ more) (rest ++ more) ≡ cond t (outcome_of R s b ∷ rest) rest ++ more
      go true = refl
      go false = refl

  at_join : (g : ℕ) (q : R.Request) (bs cs : List (Call R)) → At g q cs → At g q (bs ++ cs)
  at_join g q bs cs a =
      record { before = bs ++ a.before; after = a.after; whole = ap (λ (l : List (Call R)). bs ++ l) a.whole ∙ sym (append_assoc bs a.before (call g q ∷ a.after)) }

  module _ (g : ℕ) (s t : State) (bs es : List (Call R)) (p : Same g s t bs es) where
    same_join : (cs ds : List (Call R)) → Same g (run R s bs) (run R t es) cs ds → Same g s t (bs ++ cs) (es ++ ds)
    same_join cs ds m = record {
      got = outcomes_join g s bs cs ∙ ap₂ ◌++◌ p.got m.got ∙ sym (outcomes_join g t es ds);
      left = rw (run_join s bs cs, run_join t es ds) m.left;
    }

    learns_join : (cs ds : List (Call R)) → Learns g (run R s bs) (run R t es) cs ds → Learns g s t (bs ++ cs) (es ++ ds)
    unfolding at_join
    learns_join cs ds (inl m) = inl (same_join cs ds m)
    learns_join cs ds (inr m) = let (q, k) = m in inr (
      q,
      record {
        here = at_join g q bs cs k.here;
        there = at_join g q es ds k.there;
        before = same_join k.here.before k.there.before k.before;
        creates = rw (run_join s bs k.here.before) k.creates;
        room = rw (run_join s bs k.here.before, run_join t es k.there.before) k.room;
      },
    )

  -- ---- two histories

  -- of both the next call is c, the guest's own
  own : (g : ℕ) (s t : State) (c : Call R) (cs ds : List (Call R)) → c.guest ≡ g → Alike g s t
      → (Alike g (next R s c) (next R t c) → Learns g (next R s c) (next R t c) cs ds)
      → Learns g s t (c ∷ cs) (c ∷ ds)
  unfolding outcomes run
  own g s t c cs ds e =
      subst (λ (h : ℕ). Alike h s t → (Alike h (next R s c) (next R t c) → Learns h (next R s c) (next R t c) cs ds) → Learns h s t (c ∷ cs) (c ∷ ds)) e
      (λ a more. go a more (same_gate (wish R s c) (full s c.guest) (full t c.guest)))
    where
      h : ℕ
      h = c.guest

      go : Alike h s t → (Alike h (next R s c) (next R t c) → Learns h (next R s c) (next R t c) cs ds)
          → (gate (full s h) (wish R s c) ≡ gate (full t h) (wish R s c)) ⊎ (Creates (wish R s c) × (full s h ≡ not (full t h)))
          → Learns h s t (c ∷ cs) (c ∷ ds)
      go a more (inl e) =
          let m = step s t c a (e ∙ ap (gate (full t h)) (same_wish s t c a)) in
          learns_join h s t (c ∷ []) (c ∷ []) m cs ds (more m.left)
      go a more (inr d) = inr (
        c.request,
        record {
          here = record { before = []; after = cs; whole = refl };
          there = record { before = []; after = ds; whole = refl };
          before = record { got = refl; left = a };
          creates = d.0;
          room = d.1;
        },
      )

  -- of one of the two the next call is c: the guest's own, or one that is skipped
  turn : (g : ℕ) (s t : State) (c : Call R) (bs es cs ds : List (Call R)) → ((c.guest ≡ g → ⊥) → Same g s t bs es)
      → (c.guest ≡ g → Learns g s t (bs ++ cs) (es ++ ds))
      → (Alike g (run R s bs) (run R t es) → (c.guest ≡ g → ⊥) → Learns g (run R s bs) (run R t es) cs ds)
      → Learns g s t (bs ++ cs) (es ++ ds)
  turn g s t c bs es cs ds skipped mine more = go (same c.guest g)
    where
      go : (c.guest ≡ g) ⊎ (c.guest ≡ g → ⊥) → Learns g s t (bs ++ cs) (es ++ ds)
      go (inl q) = mine q
      go (inr n) = let m = skipped n in learns_join g s t bs es m cs ds (more m.left n)

  -- ---- the calls of guest g

  others : (g : ℕ) (c : Call R) (cs : List (Call R)) → (c.guest ≡ g → ⊥) → only g (c ∷ cs) ≡ only g cs
  unfolding only
  others g c cs n = rw (ne_eqb c.guest g n) refl

  none : (g : ℕ) (c : Call R) (cs : List (Call R)) → c.guest ≡ g → only g (c ∷ cs) ≡ [] → ⊥
  unfolding only
  none g c cs p e = let k = rw (eq-eqb c.guest g p) at e in let z : ◌≡◌ {A = ℕ} 0 1 = cc in omega arith

  both : (g : ℕ) (c d : Call R) (cs ds : List (Call R)) → c.guest ≡ g → d.guest ≡ g → only g (c ∷ cs) ≡ only g (d ∷ ds) → (c ≡ d) × (only g cs ≡ only g ds)
  unfolding only
  both g c d cs ds p q e = let k = rw (eq-eqb c.guest g p, eq-eqb d.guest g q) at e in (cc, cc)

  -- from states that it cannot tell apart, guest g makes the same calls
  pub learn : (g : ℕ) (s t : State) (cs ds : List (Call R)) → Alike g s t → only g cs ≡ only g ds → Learns g s t cs ds
  unfolding outcomes run only
  learn g s t [] [] a e = inl (record { got = refl; left = a })
  learn g s t [] (d ∷ ds) a e =
      turn g s t d [] (d ∷ []) [] ds (skip_there g s t d a) (λ q. absurd (none g d ds q (sym e))) (λ k n. learn g s (next R t d) [] ds k (e ∙ others g d ds n))
  learn g s t (c ∷ cs) [] a e =
      turn g s t c (c ∷ []) [] cs [] (skip g s t c a) (λ p. absurd (none g c cs p e)) (λ k n. learn g (next R s c) t cs [] k (sym (others g c cs n) ∙ e))
  learn g s t (c ∷ cs) (d ∷ ds) a e =
      turn g s t c (c ∷ []) [] cs (d ∷ ds) (skip g s t c a)
      (λ p. turn g s t d [] (d ∷ []) (c ∷ cs) ds (skip_there g s t d a)
      (λ q.
      let h = both g c d cs ds p q e in
      subst (λ (x : Call R). Learns g s t (c ∷ cs) (x ∷ ds)) h.0 (own g s t c cs ds p a (λ k. learn g (next R s c) (next R t c) cs ds k h.1)))
      (λ k n. learn g s (next R t d) (c ∷ cs) ds k (e ∙ others g d ds n)))
      (λ k n. learn g (next R s c) t cs (d ∷ ds) k (sym (others g c cs n) ∙ e))
