-- The checks of the calls, as the functions of this crate ask for them: of table t, guest g, readable bytes r, `room` writable bytes and a key
-- store of `store` bytes. Each is a list of the crate model.
use Rattle.std.specs.Prelude.{ℕ, Bool, cond, not, List, [], ◌∷◌, ◌++◌, length}
use Rattle.model.specs.declared.Config.{Config}
use Rattle.model.specs.declared.Session.{Session}
use Rattle.model.specs.declared.Table.{Table}
use Rattle.model.specs.Bytes.{le32}
use Rattle.model.specs.Answer.{err, nospc, Check}
use Rattle.model.specs.Session.{guest_at}
use Rattle.model.specs.View.{Setting, view, full, find, is_live, present}
use Rattle.model.specs.Control.{opcode, is_create, plain_create, asked, place_checks, head_checks, session_checks, numbers_left, create_checks, destroy_checks}
use Rattle.model.specs.Data.{number, lengths, operation_checks, job_checks, data_checks, key_checks}
use Rattle.model.specs.Device.{bare}

abbrev pub setting_of : Table → ℕ → Setting
setting_of t store = record { config = t.config; store = store }

-- a create's, and its three stages; the first two need the configuration, and whether the guest is here
abbrev pub creation : Table → ℕ → List ℕ → ℕ → ℕ → List Check
creation t g r room store = create_checks (setting_of t store) g (view (bare t) g) (full t g) r room

abbrev pub opening : Config → Bool → List ℕ → ℕ → ℕ → List Check
opening k here r room store = place_checks store here room ++ head_checks k (opcode r) (length r) room

abbrev pub form : Config → List ℕ → List Check
form k r = session_checks k (plain_create r) (le32 r 4) (asked r) (length r)

abbrev pub granting : Table → ℕ → List Check
granting t g = (numbers_left (view (bare t) g), err) ∷ (not (full t g), nospc) ∷ []

-- a destroy's
abbrev pub destruction : Table → ℕ → List ℕ → ℕ → ℕ → List Check
destruction t g r room store = destroy_checks (setting_of t store) g (view (bare t) g) r room

-- a control request's
abbrev pub changing : Table → ℕ → List ℕ → ℕ → ℕ → List Check
changing t g r room store = cond (is_create r) (creation t g r room store) (destruction t g r room store)

-- a data request's, and before it its two stages: without a session, and on the session x that was found, if it is alive
abbrev pub sessionless : Config → Bool → List ℕ → ℕ → List Check
sessionless k here r room = operation_checks k here (opcode r) (le32 r 16) (length r) room

abbrev pub suited : Config → Bool → Session → List ℕ → ℕ → List Check
suited k alive x r room = job_checks k alive x (opcode r) (plain_create r) (lengths r) (length r) room

abbrev pub admission : Table → ℕ → List ℕ → ℕ → List Check
admission t g r room = data_checks t.config (present g (guest_at t g)) (find (bare t) g (number r)) r room

-- a key fetch's
abbrev pub fetching : Table → ℕ → ℕ → ℕ → List Check
fetching t g n store = key_checks store (present g (guest_at t g)) (is_live (find (bare t) g n))
