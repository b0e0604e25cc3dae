-- Paper 01, "Answer numbers": the numbers, checks in order, and the outcome bytes. [2]
use Rattle.std.specs.Prelude.{ℕ, ◌-◌, Bool, cond, ◌&&◌, not, List, [], ◌∷◌, ◌++◌, eqb, ltb, length, set, Result, Ok, Err}
use Rattle.model.specs.declared.Refusal.{Refusal}
use Rattle.model.specs.declared.Refusal.TheVariants.{Error, NotSupported, InvalidSession, NoSpace, BadGuest, NoOutcome, BadStore, BadFeature, BadShares, BadConfig}
use Rattle.model.specs.Bytes.{le}

-- ---- the numbers [2.1]

abbrev pub ok : ℕ
ok = 0

abbrev pub err : ℕ
err = 1

-- by finish only
abbrev pub badmsg : ℕ
badmsg = 2

abbrev pub notsupp : ℕ
notsupp = 3

abbrev pub invsess : ℕ
invsess = 4

abbrev pub nospc : ℕ
nospc = 5

-- guest above 7, or not attached; this number and those above it have no outcome bytes
abbrev pub bad_guest : ℕ
bad_guest = 16

-- no outcome place
abbrev pub no_outcome : ℕ
no_outcome = 17

-- key store not 16,384 bytes
abbrev pub bad_store : ℕ
bad_store = 18

-- feature word refused
abbrev pub bad_feature : ℕ
bad_feature = 19

-- shares refused
abbrev pub bad_shares : ℕ
bad_shares = 20

-- configuration refused
abbrev pub bad_config : ℕ
bad_config = 21

-- the number of each refusal
abbrev pub number_of : Refusal → ℕ
number_of Error = err
number_of NotSupported = notsupp
number_of InvalidSession = invsess
number_of NoSpace = nospc
number_of BadGuest = bad_guest
number_of NoOutcome = no_outcome
number_of BadStore = bad_store
number_of BadFeature = bad_feature
number_of BadShares = bad_shares
number_of BadConfig = bad_config

-- the answer in an outcome
abbrev pub answer_in : {A : Type 0} → Result A Refusal → ℕ
answer_in (Ok v) = ok
answer_in (Err refusal) = number_of refusal

-- one check: it holds, or it refuses
abbrev pub checked : Bool → Refusal → Result (Unit {0}) Refusal
checked holds refusal = cond holds (Ok tt) (Err refusal)

-- 01's term "granted": answer 0 [1.2]
abbrev pub granted : ℕ → Bool
granted answer = eqb answer ok

-- ---- checks in order [2.2]

-- a test, and the answer where it fails
abbrev pub Check : Type 0
Check = Bool × ℕ

-- 0 where every check holds, else the number beside the first that fails
unfoldable pub first_fail : List Check → ℕ
first_fail [] = ok
first_fail (c ∷ cs) = cond c.0 (first_fail cs) c.1

-- ---- the outcome bytes

-- control: 16 bytes take session_id (8), status (4) and padding 0 (4); one byte takes the status [2.5]
unfoldable pub control_outcome : List ℕ → ℕ → ℕ → List ℕ
control_outcome w id status = cond (eqb (length w) 16) (le 8 id ++ le 4 status ++ le 4 0) (cond (eqb (length w) 1) (status ∷ []) w)

-- data: the status is the last writable byte [2.6]
unfoldable pub data_outcome : List ℕ → ℕ → List ℕ
data_outcome w status = set w (length w - 1) status

-- the writable bytes after a control request [2.4, 2.5]
unfoldable pub control_bytes : List ℕ → ℕ → ℕ → List ℕ
control_bytes w id answer = cond (ltb answer bad_guest) (control_outcome w id answer) w

-- the writable bytes after a data request; an accepted one writes nothing until finish [2.4, 2.6]
unfoldable pub data_bytes : List ℕ → ℕ → List ℕ
data_bytes w answer = cond (ltb answer bad_guest && not (granted answer)) (data_outcome w answer) w
