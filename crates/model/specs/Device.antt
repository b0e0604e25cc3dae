-- Paper 01, "How tight the promises are": for each public call but set-up, its answer, what its caller gets, and the table and key store that it
-- leaves. [1.5, 15.1]
use Rattle.std.specs.Prelude.{ℕ, suc, Bool, cond, List, [], length}
use Rattle.model.specs.declared.Field.{Field}
use Rattle.model.specs.declared.Table.{Table}
use Rattle.model.specs.Answer.{granted, Check, first_fail, control_bytes, data_bytes, data_outcome}
use Rattle.model.specs.Session.{World}
use Rattle.model.specs.View.{Setting, View, setting, view, full, present, is_live}
use Rattle.model.specs.Act.{Act, pass, attach, judge, after}
use Rattle.model.specs.Setup.{attach_checks}
use Rattle.model.specs.Control.{opcode, is_create, control_checks, control_act}
use Rattle.model.specs.Data.{number, data_checks, part_of, key_checks, key_bytes, finish_checks, status}

-- a call's arguments besides its guest
pub data Request : Type 0 where
  -- feature word
  Attach : ℕ → Request
  -- readable and writable bytes
  Control : List ℕ → List ℕ → Request
  Admit : List ℕ → List ℕ → Request
  -- a part of a data request, with its arguments
  Part : Field → List ℕ → List ℕ → Request
  -- session number
  KeyAnswer : ℕ → Request
  Key : ℕ → Request
  -- opcode, verdict and writable bytes
  Finish : ℕ → ℕ → List ℕ → Request

-- what an accepted data request names [10.10]
pub record Job : Type 0 where
  pub guest : ℕ
  pub number : ℕ
  pub opcode : ℕ

abbrev pub no_job : Job
no_job = record { guest = 0; number = 0; opcode = 0 }

-- what the caller gets: the calls for a part or a key hand on bytes, and the answer is that of the request or key they belong to
pub record Outcome : Type 0 where
  pub answer : ℕ
  -- the writable bytes afterwards
  pub writable : List ℕ
  pub job : Job
  -- the part or key handed on
  pub bytes : List ℕ

-- the checks in order; f says that a create of the guest is NOSPC
unfoldable pub checks_of : Setting → ℕ → View → Bool → Request → List Check
checks_of k g v f (Attach word) = attach_checks k.store g word
checks_of k g v f (Control r w) = control_checks k g v f r (length w)
checks_of k g v f (Admit r w) = data_checks k.config (present g v.guest) (v.find (number r)) r (length w)
checks_of k g v f (Part x r w) = data_checks k.config (present g v.guest) (v.find (number r)) r (length w)
checks_of k g v f (KeyAnswer n) = key_checks k.store (present g v.guest) (is_live (v.find n))
checks_of k g v f (Key n) = key_checks k.store (present g v.guest) (is_live (v.find n))
checks_of k g v f (Finish op verdict w) = finish_checks (present g v.guest) (length w)

-- what is done where they hold
abbrev pub asks : Request → Act
asks (Attach word) = attach
asks (Control r w) = control_act r
asks (Admit r w) = pass
asks (Part x r w) = pass
asks (KeyAnswer n) = pass
asks (Key n) = pass
asks (Finish op verdict w) = pass

-- x where n is answer 0, else y
abbrev pub if_granted : {A : Type 0} → ℕ → A → A → A
if_granted n x y = cond (granted n) x y

abbrev pub answered : ℕ → List ℕ → Outcome
answered n w = record { answer = n; writable = w; job = no_job; bytes = [] }

abbrev pub handed : ℕ → List ℕ → List ℕ → Outcome
handed n w part = record { answer = n; writable = w; job = no_job; bytes = if_granted n part [] }

-- what the caller gets; n is the number beside the first check that fails, 0 where all hold
unfoldable pub outcome : ℕ → View → Request → ℕ → Outcome
outcome g v (Attach word) n = answered n []
outcome g v (Control r w) n = answered n (control_bytes w (if_granted n (cond (is_create r) (suc v.guest.last) 0) 0) n)
outcome g v (Admit r w) n = record {
  answer = n;
  writable = data_bytes w n;
  job = if_granted n (record { guest = g; number = number r; opcode = opcode r }) no_job;
  bytes = [];
}
outcome g v (Part x r w) n = handed n w (part_of x r)
outcome g v (KeyAnswer m) n = answered n []
outcome g v (Key m) n = handed n [] (key_bytes (v.find m))
outcome g v (Finish op verdict w) n = if_granted n (answered (status op verdict) (data_outcome w (status op verdict))) (answered n w)

-- ---- one call of guest g on a table and a key store

abbrev pub world : Table → List ℕ → World
world t b = record { table = t; store = b }

-- a table alone: data requests and finish do not look at the key store
abbrev pub bare : Table → World
bare t = world t []

unfoldable pub checks : World → ℕ → Request → List Check
checks w g q = checks_of (setting w) g (view w g) (full w.table g) q

-- what its caller gets
unfoldable pub reply : World → ℕ → Request → Outcome
reply w g q = outcome g (view w g) q (first_fail (checks w g q))

-- what it does
unfoldable pub act : World → ℕ → Request → Act
act w g q = judge (checks w g q) (asks q)

-- the table and store that it leaves
unfoldable pub next : World → ℕ → Request → World
next w g q = after w g (act w g q)
