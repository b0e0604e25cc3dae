-- The search for a live session: whether a number was given is asked once, before the slots are looked at.
use Rattle.std.specs.Prelude.{Bool, ◌&&◌, ℕ, eqb, ltb, leb, Option, None, Some}
use Rattle.model.specs.declared.Config.{Config}
use Rattle.model.specs.declared.Guest.{Guest}
use Rattle.model.specs.declared.Session.{Session}
use Rattle.model.specs.Session.{Place, slot_count, no_session, accepts}
use Rattle.model.specs.View.{owned}
use Rattle.table.specs.declared.Found.{Found}

-- the number was given to the guest with record r since its attach
abbrev pub was_given : Guest → ℕ → Bool
was_given r n = r.attached && ltb 0 n && leb n r.last

-- guest g holds session n there, and its fields pass step 4
abbrev pub claimed : Config → ℕ → ℕ → Place → Bool
claimed k g n c = owned g c && eqb c.number n && accepts k c.session

-- the place that was found, the number of slots where none was
abbrev pub place_found : Option Found → ℕ
place_found None = slot_count
place_found (Some f) = f.at

-- the session that was found, all 0 where none was
abbrev pub session_found : Option Found → Session
session_found None = no_session
session_found (Some f) = f.session
