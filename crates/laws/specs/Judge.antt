-- Laws of checks in order: what passing them tells, and which number a refusal has.
-- Assumes nothing.
use Rattle.std.specs.Prelude.{◌≡◌, refl, Bool, true, false, cond, not, ◌&&◌, List, [], ◌∷◌, ◌++◌, ℕ, zero, suc, eqb, get_or, length}
use Rattle.std.proofs.lemmas.Bool.{eqb-false, not-true}
use Rattle.lists.specs.Test.{and_true}
use Rattle.model.specs.Answer.{ok, err, nospc, Check, first_fail}
use Rattle.model.specs.View.{Setting, View}
use Rattle.model.specs.Act.{Act, refuse, judge, answer_of}
use Rattle.model.specs.Control.{form_checks, numbers_left, create_checks}
use Rattle.model.specs.Device.{Request, Attach, Control, Admit, Part, KeyAnswer, Key, Finish, checks_of}
use Rattle.laws.specs.Kind.{by_kind}

-- every check holds
abbrev pub Passed : List Check → Type 0
Passed [] = Unit {0}
Passed (c ∷ cs) = (c.0 ≡ true) × Passed cs

-- no check answers 0
abbrev pub answers : List Check → Bool
answers [] = true
answers (c ∷ cs) = not (eqb c.1 ok) && answers cs

-- ---- 0 exactly if every check holds

pub passed_first : (cs : List Check) → Passed cs → first_fail cs ≡ ok
unfolding first_fail
passed_first [] p = refl
passed_first (c ∷ cs) p = rw p.0 (passed_first cs p.1)

pub first_passed : (cs : List Check) → answers cs ≡ true → first_fail cs ≡ ok → Passed cs
unfolding first_fail
first_passed [] h e = tt
first_passed (c ∷ cs) h e = go c.0 refl e (first_passed cs (and_true (not (eqb c.1 ok)) (answers cs) h).1)
  where
    go : (b : Bool) → c.0 ≡ b → cond b (first_fail cs) c.1 ≡ ok → (first_fail cs ≡ ok → Passed cs) → Passed (c ∷ cs)
    go true q e ih = (q, ih e)
    go false q e ih = absurd (eqb-false c.1 ok (not-true (eqb c.1 ok) (and_true (not (eqb c.1 ok)) (answers cs) h).0) e)

-- the number beside the first that fails
pub first_failed : (cs ds : List Check) (n : ℕ) → Passed cs → first_fail (cs ++ (false, n) ∷ ds) ≡ n
unfolding first_fail
first_failed [] ds n p = refl
first_failed (c ∷ cs) ds n p = rw p.0 (first_failed cs ds n p.1)

-- check i of those that hold
pub holds_at : (cs : List Check) (i : ℕ) → Passed cs → (get_or cs i (true, ok)).0 ≡ true
holds_at [] i p = refl
holds_at (c ∷ cs) zero p = p.0
holds_at (c ∷ cs) (suc i) p = holds_at cs i p.1

-- the checks of the first list hold, and those of the second
pub passed_front : (cs ds : List Check) → Passed (cs ++ ds) → Passed cs
passed_front [] ds p = tt
passed_front (c ∷ cs) ds p = (p.0, passed_front cs ds p.1)

passed_back : (cs ds : List Check) → Passed (cs ++ ds) → Passed ds
passed_back [] ds p = p
passed_back (c ∷ cs) ds p = passed_back cs ds p.1

pub passed_both : (cs ds : List Check) → Passed cs → Passed ds → Passed (cs ++ ds)
passed_both [] ds p q = q
passed_both (c ∷ cs) ds p q = (p.0, passed_both cs ds p.1 q)

-- ---- an act behind checks

pub judge_passed : (cs : List Check) (a : Act) → Passed cs → judge cs a ≡ a
judge_passed [] a p = refl
judge_passed (c ∷ cs) a p = rw p.0 (judge_passed cs a p.1)

-- an act that can be done answers as its checks do
pub judge_answer : (cs : List Check) (a : Act) → answer_of a ≡ ok → answer_of (judge cs a) ≡ first_fail cs
unfolding first_fail
judge_answer [] a z = z
judge_answer (c ∷ cs) a z = go c.0 (judge_answer cs a z)
  where
    go : (b : Bool) → answer_of (judge cs a) ≡ first_fail cs → answer_of (cond b (judge cs a) (refuse c.1)) ≡ cond b (first_fail cs) c.1
    go true ih = ih
    go false ih = refl

-- ---- the checks of the calls: none answers 0

pub answers_of : (k : Setting) (g : ℕ) (v : View) (f : Bool) (q : Request) → answers (checks_of k g v f q) ≡ true
unfolding checks_of
answers_of k g v f (Attach word) = refl
answers_of k g v f (Control r w) = by_kind (λ t cs a. answers (cs f) ≡ true) k g v r (length w) (λ e. refl) (λ e. refl)
answers_of k g v f (Admit r w) = refl
answers_of k g v f (Part x r w) = refl
answers_of k g v f (KeyAnswer n) = refl
answers_of k g v f (Key n) = refl
answers_of k g v f (Finish op verdict w) = refl

-- ---- a create that passes every check is well-formed and has numbers left

pub create_passed : (k : Setting) (g : ℕ) (v : View) (f : Bool) (r : List ℕ) (room : ℕ) → Passed (create_checks k g v f r room)
    → Passed (form_checks k g v r room) × (numbers_left v ≡ true)
create_passed k g v f r room p = (passed_front form rest p, (passed_back form rest p).0)
  where
    form : List Check
    form = form_checks k g v r room

    rest : List Check
    rest = (numbers_left v, err) ∷ (not f, nospc) ∷ []
