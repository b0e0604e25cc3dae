-- An act behind checks is lawful if the checks make it so, and the room is the last check of a create.
-- Assumes nothing.
use Rattle.std.specs.Prelude.{◌≡◌, refl, Bool, true, false, cond, not, List, [], ◌∷◌, ◌++◌, ℕ}
use Rattle.model.specs.Answer.{nospc, Check}
use Rattle.model.specs.Session.{Entry}
use Rattle.model.specs.View.{Setting, View}
use Rattle.model.specs.Act.{Act, refuse, create, judge}
use Rattle.laws.specs.Judge.{Passed}
use Rattle.history.specs.Apply.{gate, Creates}
use Rattle.history.specs.Lawful.{Lawful}

pub lawful_judge : (k : Setting) (g : ℕ) (v : View) (cs : List Check) (a : Act) → (Passed cs → Lawful k g v a) → Lawful k g v (judge cs a)
lawful_judge k g v [] a h = h tt
lawful_judge k g v (c ∷ cs) a h = go c.0 refl (λ p. lawful_judge k g v cs a p)
  where
    go : (b : Bool) → c.0 ≡ b → ((Passed cs → Lawful k g v a) → Lawful k g v (judge cs a)) → Lawful k g v (cond b (judge cs a) (refuse c.1))
    go true e ih = ih (λ p. h (e, p))
    go false e ih = tt

-- an act behind checks can be refused for room only if the checks passed
pub creates_judge : (cs : List Check) (a : Act) → Creates (judge cs a) → Passed cs × Creates a
creates_judge [] a h = (tt, h)
creates_judge (c ∷ cs) a h = go c.0 refl h (creates_judge cs a)
  where
    go : (b : Bool) → c.0 ≡ b → Creates (cond b (judge cs a) (refuse c.1)) → (Creates (judge cs a) → Passed cs × Creates a) → Passed (c ∷ cs) × Creates a
    go true e h ih = let r = ih h in ((e, r.0), r.1)
    go false e h ih = absurd h

-- ---- the room check on an act behind checks

-- a refusal stays
gate_judge : (f : Bool) (cs ds es : List Check) (a : Act) → gate f (judge ds a) ≡ judge es a → gate f (judge (cs ++ ds) a) ≡ judge (cs ++ es) a
gate_judge f [] ds es a h = h
gate_judge f (c ∷ cs) ds es a h = go c.0 (gate_judge f cs ds es a h)
  where
    go : (b : Bool) → gate f (judge (cs ++ ds) a) ≡ judge (cs ++ es) a
        → gate f (cond b (judge (cs ++ ds) a) (refuse c.1)) ≡ cond b (judge (cs ++ es) a) (refuse c.1)
    go true ih = ih
    go false ih = refl

-- an act that it lets pass
pub gate_other : (f : Bool) (cs : List Check) (a : Act) → gate f a ≡ a → gate f (judge cs a) ≡ judge cs a
gate_other f [] a h = h
gate_other f (c ∷ cs) a h = go c.0 (gate_other f cs a h)
  where
    go : (b : Bool) → gate f (judge cs a) ≡ judge cs a → gate f (cond b (judge cs a) (refuse c.1)) ≡ cond b (judge cs a) (refuse c.1)
    go true ih = ih
    go false ih = refl

-- a create: it is the last of its checks
pub gate_create : (f : Bool) (cs : List Check) (e : Entry) → gate f (judge (cs ++ (not false, nospc) ∷ []) (create e)) ≡ judge (cs ++ (not f, nospc) ∷ []) (create e)
gate_create f cs e = gate_judge f cs ((not false, nospc) ∷ []) ((not f, nospc) ∷ []) (create e) (last f)
  where
    last : (f : Bool) → gate f (create e) ≡ judge ((not f, nospc) ∷ []) (create e)
    last true = refl
    last false = refl
