-- Paper 01, "The session table": whose slot is whose, which sessions are live, room for one more, and all that a guest's answers depend on. [6]
use Rattle.std.specs.Prelude.{ℕ, ◌+◌, ◌-◌, Bool, true, false, cond, not, ◌&&◌, ◌||◌, eqb, leb, ltb, length}
use Rattle.std.proofs.Math.Option.{Option, none, some}
use Rattle.lists.specs.Seek.{count, index}
use Rattle.lists.specs.Sum.{sum_to, except}
use Rattle.model.specs.declared.Config.{Config}
use Rattle.model.specs.declared.Guest.{Guest}
use Rattle.model.specs.declared.Session.{Session}
use Rattle.model.specs.declared.Table.{Table}
use Rattle.model.specs.Session.{slot_count, store_size, World, Place, no_session, slots_of, place_at, guest_at, area, Entry, accepts}

abbrev pub is_held : Place → Bool
is_held c = c.held

abbrev pub is_free : Place → Bool
is_free c = not c.held

-- the slot names guest g as owner
abbrev pub owned : ℕ → Place → Bool
owned g c = c.held && eqb c.owner g

-- "A held slot matches no number if its owner is above 7 or not attached, its number is 0 or not yet given to that owner, its service is not
-- offered, or its other fields fail step 4": of number n, the owner with record r, and the configuration k [6.8]
abbrev pub given : Config → Guest → ℕ → Place → Bool
given k r n c = r.attached && ltb 0 n && leb n r.last && accepts k c.session

-- 01's term "live": the slot matches session number n of guest g, its owner [6.8]
abbrev pub live : Table → ℕ → ℕ → Place → Bool
live t g n c = owned g c && eqb c.number n && given t.config (guest_at t g) n c

-- ---- places; the number of slots where there is none

-- "the lowest-numbered free slot" [6.11]
abbrev pub free_at : Table → ℕ
free_at t = index is_free (slots_of t)

-- "Of two that match, the lower slot counts" [6.9]
abbrev pub live_at : Table → ℕ → ℕ → ℕ
live_at t g n = index (live t g n) (slots_of t)

-- ---- room

-- 01's term "holds": counted from the slots naming the guest as owner, matching or not [6.7]
abbrev pub holds : Table → ℕ → ℕ
holds t g = count (owned g) (slots_of t)

-- all held slots
abbrev pub total : Table → ℕ
total t = count is_held (slots_of t)

-- "reserve minus held, not below 0, attached or not" [6.10]
abbrev pub unmet : Table → ℕ → ℕ
unmet t g = (guest_at t g).reserve - holds t g

-- the other guests' unmet reserves
abbrev pub owed : Table → ℕ → ℕ
owed t g = sum_to 8 (except g (unmet t))

-- "A create is NOSPC exactly if the guest holds its cap; or it holds at least its reserve, and all held slots plus the other guests' unmet
-- reserves reach 128; or no slot is free": of a guest with record r that holds `held`, where all hold `all`, the others are owed `others` and
-- `spare` slots are free [6.10]
unfoldable pub no_room : Guest → ℕ → ℕ → ℕ → ℕ → Bool
no_room r held all others spare = leb r.cap held || leb r.reserve held && leb slot_count (all + others) || eqb spare 0

-- a create of guest g is NOSPC
unfoldable pub full : Table → ℕ → Bool
full t g = no_room (guest_at t g) (holds t g) (total t) (owed t g) (count is_free (slots_of t))

-- ---- what a guest sees: all that its answers depend on, but for the room

-- slot i's session with its key area
abbrev pub entry_at : World → ℕ → Entry
entry_at w i = record { session = (place_at w.table i).session; key = area i w.store }

-- the live session n of guest g
unfoldable pub find : World → ℕ → ℕ → Option Entry
find w g n = cond (ltb (live_at w.table g n) (length (slots_of w.table))) (some (entry_at w (live_at w.table g n))) none

pub record View : Type 0 where
  pub guest : Guest
  pub holds : ℕ
  pub find : ℕ → Option Entry

abbrev pub view : World → ℕ → View
view w g = record { guest = guest_at w.table g; holds = holds w.table g; find = find w g }

abbrev pub is_live : Option Entry → Bool
is_live none = false
is_live (some e) = true

-- a live session, without its key
abbrev pub session_in : Option Entry → Session
session_in none = no_session
session_in (some e) = e.session

-- what stays as set-up left it: the configuration, and the length of the key store
pub record Setting : Type 0 where
  pub config : Config
  pub store : ℕ

abbrev pub setting : World → Setting
setting w = record { config = w.table.config; store = length w.store }

-- ---- tests that many calls share

-- the key store has its 16,384 bytes [7.1]
abbrev pub sized : ℕ → Bool
sized n = eqb n store_size

-- guest g, whose record is r, is at most 7 and attached [6.5]
unfoldable pub present : ℕ → Guest → Bool
present g r = ltb g 8 && r.attached
