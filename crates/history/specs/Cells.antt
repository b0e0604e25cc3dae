-- The state that the theorems speak of: each slot with its key area. The table and flat store follow it (crate follows).
-- Assumes nothing.
use Rattle.std.specs.Prelude.{Bool, ◌&&◌, List, ℕ, ◌-◌, eqb, get_or}
use Rattle.std.proofs.Math.Option.{Option, none, some}
use Rattle.lists.specs.Seek.{count, first}
use Rattle.lists.specs.Sum.{sum_to, except}
use Rattle.model.specs.declared.Guest.{Guest}
use Rattle.model.specs.Session.{Place, free, new_guest, zeros, Entry}
use Rattle.model.specs.View as Model
use Rattle.model.specs.View.{View, Setting, sized, owned, given, no_room}

-- a slot with its key area
pub record Cell : Type 0 where
  pub place : Place
  pub key : List ℕ

pub record State : Type 0 where
  pub setting : Setting
  pub cells : List Cell
  pub guests : List Guest

abbrev pub no_cell : Cell
no_cell = record { place = free; key = zeros }

-- the key store has its size
abbrev pub stored : Setting → Bool
stored k = sized k.store

-- ---- the definitions' tests on a slot

abbrev pub is_held : Cell → Bool
is_held c = Model.is_held c.place

abbrev pub is_free : Cell → Bool
is_free c = Model.is_free c.place

abbrev pub owns : ℕ → Cell → Bool
owns g c = owned g c.place

abbrev pub named : ℕ → ℕ → Cell → Bool
named g n c = owns g c && eqb c.place.number n

-- the slot is the live session n of guest g, whose record is r
abbrev pub matches : Setting → Guest → ℕ → ℕ → Cell → Bool
matches k r g n c = named g n c && given k.config r n c.place

-- ---- room

abbrev pub guest_of : State → ℕ → Guest
guest_of s g = get_or s.guests g (new_guest 0 0)

abbrev pub holds : State → ℕ → ℕ
holds s g = count (owns g) s.cells

abbrev pub unmet : State → ℕ → ℕ
unmet s g = (guest_of s g).reserve - holds s g

abbrev pub total : State → ℕ
total s = count is_held s.cells

-- the other guests' unmet reserves
abbrev pub owed : State → ℕ → ℕ
owed s g = sum_to 8 (except g (unmet s))

-- a create of guest g is NOSPC
unfoldable pub full : State → ℕ → Bool
full s g = no_room (guest_of s g) (holds s g) (total s) (owed s g) (count is_free s.cells)

-- ---- a guest's view

abbrev pub entry_of : Option Cell → Option Entry
entry_of none = none
entry_of (some c) = some (record { session = c.place.session; key = c.key })

abbrev pub view_in : Setting → Guest → List Cell → ℕ → View
view_in k r l g = record { guest = r; holds = count (owns g) l; find = λ n. entry_of (first (matches k r g n) l) }

abbrev pub view : State → ℕ → View
view s g = view_in s.setting (guest_of s g) s.cells g
