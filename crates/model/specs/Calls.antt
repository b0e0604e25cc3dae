-- Paper 01, "Demand 3's list of calls": lists of calls, and the history that answers and outcome bytes tell. [14.5, 14.6]
use Rattle.std.specs.Prelude.{ℕ, suc, ◌≡◌, Bool, true, false, cond, List, [], ◌∷◌, ◌++◌, eqb, length}
use Rattle.model.specs.Bytes.{le64}
use Rattle.model.specs.Answer.{ok, granted, first_fail}
use Rattle.model.specs.Session.{World}
use Rattle.model.specs.View.{setting, view}
use Rattle.model.specs.Control.{is_create, form_checks}
use Rattle.model.specs.Device.{Request, Attach, Control, Admit, Part, KeyAnswer, Key, Finish, Outcome, reply, next}

-- a call: the guest that it names, and its other arguments, of type Q
pub record Call (Q : Type 0) : Type 0 where
  pub guest : ℕ
  pub request : Q

-- ---- "Each call takes the table last returned and, if it uses one, the one key store" [14.5]

unfoldable pub run : World → List (Call Request) → World
run w [] = w
run w (c ∷ cs) = run (next w c.guest c.request) cs

-- what guest g gets, call by call
unfoldable pub outcomes : ℕ → World → List (Call Request) → List Outcome
outcomes g w [] = []
outcomes g w (c ∷ cs) =
    let rest = outcomes g (next w c.guest c.request) cs in
    cond (eqb c.guest g) (reply w c.guest c.request ∷ rest) rest

-- "Its calls are those that name it. The second list keeps only these, in order" [14.6, 14.10]
unfoldable pub only : {Q : Type 0} → ℕ → List (Call Q) → List (Call Q)
only g [] = []
only g (c ∷ cs) = cond (eqb c.guest g) (c ∷ only g cs) (only g cs)

-- a place in the list cs where guest g makes request q: the calls before it, and those after
pub record At {Q : Type 0} (g : ℕ) (q : Q) (cs : List (Call Q)) : Type 0 where
  pub before : List (Call Q)
  pub after : List (Call Q)
  pub whole : cs ≡ before ++ record { guest = g; request = q } ∷ after

-- ---- the history of one guest [14.6]

pub record Past : Type 0 where
  -- 01's term "attached": an attach of the guest was granted [14.6]
  pub attached : Bool
  -- since its last granted attach: the last session number given to it, 0 before the first; its granted creates and destroys
  pub last : ℕ
  pub creates : ℕ
  pub destroys : ℕ

-- nothing since then
abbrev pub begun : Bool → Past
begun a = record { attached = a; last = 0; creates = 0; destroys = 0 }

abbrev pub created : ℕ → Past → Past
created n p = record { attached = p.attached; last = n; creates = suc p.creates; destroys = p.destroys }

abbrev pub destroyed : Past → Past
destroyed p = record { attached = p.attached; last = p.last; creates = p.creates; destroys = suc p.destroys }

-- the history with one request more, by what its caller got; a create's number is the session_id of its outcome bytes
unfoldable pub noted : Past → Request → Outcome → Past
noted p (Attach word) o = cond (granted o.answer) (begun true) p
noted p (Control r w) o = cond (granted o.answer) (cond (is_create r) (created (le64 o.writable 0) p) (destroyed p)) p
noted p (Admit r w) o = p
noted p (Part f r w) o = p
noted p (KeyAnswer n) o = p
noted p (Key n) o = p
noted p (Finish op verdict w) o = p

unfoldable pub past : ℕ → Past → World → List (Call Request) → Past
past g p w [] = p
past g p w (c ∷ cs) =
    past g (cond (eqb c.guest g) (noted p c.request (reply w c.guest c.request)) p) (next w c.guest c.request) cs

-- of a list that starts from the table and key store that a set-up left
abbrev pub past_of : ℕ → World → List (Call Request) → Past
past_of g w cs = past g (begun false) w cs

-- 01's term "well-formed": readable bytes r and writable bytes b are a create that passes every check before the session number check [8.14]
abbrev pub WellFormed : World → ℕ → List ℕ → List ℕ → Type 0
WellFormed w g r b = (is_create r ≡ true) × (first_fail (form_checks (setting w) g (view w g) r (length b)) ≡ ok)
