-- The facts behind an act that changes the table.
-- Assumes nothing.
use Rattle.std.specs.Prelude.{◌≡◌, refl, Bool, true, false, ◌&&◌, ◌||◌, List, [], ◌∷◌, ℕ, zero, suc, ◌+◌, ◌≤◌, ◌<◌, eqb, leb, length, get_or}
use Rattle.std.proofs.Math.Option.{Option, none, some}
use Rattle.std.proofs.Common.{arith, leb-false, le-leb}
use Rattle.std.proofs.lemmas.Bool.{eqb-false}
use Rattle.lists.specs.Test.{false_true, or_false}
use Rattle.lists.specs.Seek.{count, first, first_some, none_some}
use Rattle.model.specs.declared.Guest.{Guest}
use Rattle.model.specs.View.{Setting, View, no_room}
use Rattle.history.specs.Cells.{State, Cell, stored, guest_of, holds, total, owed, full, is_free, matches, entry_of, view}
use Rattle.model.specs.Session.{area_size, last_number, slot_count, Entry, accepts, new_guest}
use Rattle.history.specs.Apply.{gate}
use Rattle.model.specs.Act.{Act, refuse, pass, attach, create, destroy}

-- ---- laws of a request's act, in terms of the guest's view

-- a session that can be, with a whole key area
pub record Sound (k : Setting) (e : Entry) : Type 0 where
  pub accepted : accepts k.config e.session ≡ true
  pub whole : length e.key ≡ area_size

-- attached and with numbers left, for a session that can be
pub record Creatable (k : Setting) (v : View) (e : Entry) : Type 0 where
  pub attached : v.guest.attached ≡ true
  pub left : v.guest.last < last_number
  pub sound : Sound k e

-- attached, with a live session n
pub record Known (v : View) (n : ℕ) : Type 0 where
  pub attached : v.guest.attached ≡ true
  pub entry : Entry
  pub found : v.find n ≡ some entry

abbrev pub Lawful : Setting → ℕ → View → Act → Type 0
Lawful k g v (refuse n) = Unit {0}
Lawful k g v pass = Unit {0}
Lawful k g v attach = (g < 8) × (stored k ≡ true)
Lawful k g v (create e) = Creatable k v e
Lawful k g v (destroy n) = Known v n

-- ---- the same with the room and the slot

pub record Room (s : State) (g : ℕ) : Type 0 where
  pub below : holds s g < (guest_of s g).cap
  pub spare : (guest_of s g).reserve ≤ holds s g → total s + owed s g < slot_count
  pub cell : Cell
  pub free : first is_free s.cells ≡ some cell

pub record Found (s : State) (g n : ℕ) : Type 0 where
  pub attached : (guest_of s g).attached ≡ true
  pub cell : Cell
  pub found : first (matches s.setting (guest_of s g) g n) s.cells ≡ some cell

-- what an act rests on when it is done
abbrev pub Ready : State → ℕ → Act → Type 0
Ready s g (refuse n) = Unit {0}
Ready s g pass = Unit {0}
Ready s g attach = (g < 8) × (stored s.setting ≡ true)
Ready s g (create e) = Creatable s.setting (view s g) e × Room s g
Ready s g (destroy n) = Found s g n

pub room : (s : State) (g : ℕ) → full s g ≡ false → Room s g
unfolding full no_room
room s g e =
    let a = or_false (at_cap || crowded) (eqb (count is_free s.cells) 0) e in
    let b = or_false at_cap crowded a.0 in
    let c = first_some is_free s.cells (omega (arith, eqb-false (count is_free s.cells) 0 a.1)) in
    record { below = leb-false (guest_of s g).cap (holds s g) b.0; spare = spare b.1; cell = c.0; free = c.1 }
  where
    at_cap : Bool
    at_cap = leb (guest_of s g).cap (holds s g)

    crowded : Bool
    crowded = leb (guest_of s g).reserve (holds s g) && leb slot_count (total s + owed s g)

    spare : crowded ≡ false → (guest_of s g).reserve ≤ holds s g → total s + owed s g < slot_count
    spare q h = leb-false slot_count (total s + owed s g) (rw (le-leb (guest_of s g).reserve (holds s g) h) at q)

found_cell : (o : Option Cell) (e : Entry) → entry_of o ≡ some e → (c : Cell) × (o ≡ some c)
found_cell none e q = absurd (none_some q)
found_cell (some c) e q = (c, refl)

pub found : (s : State) (g n : ℕ) → Known (view s g) n → Found s g n
found s g n w =
    let c = found_cell (first (matches s.setting (guest_of s g) g n) s.cells) w.entry w.found in
    record { attached = w.attached; cell = c.0; found = c.1 }

-- a lawful act that passed the gate
pub ready : (s : State) (g : ℕ) (a : Act) → Lawful s.setting g (view s g) a → Ready s g (gate (full s g) a)
ready s g (refuse n) w = tt
ready s g pass w = tt
ready s g attach w = w
ready s g (create e) w = go (full s g) refl
  where
    go : (b : Bool) → full s g ≡ b → Ready s g (gate b (create e))
    go true q = tt
    go false q = (w, room s g q)
ready s g (destroy n) w = found s g n w

-- an attached guest has a record
pub in_list : (l : List Guest) (g : ℕ) → (get_or l g (new_guest 0 0)).attached ≡ true → g < length l
unfolding new_guest
in_list [] g e = absurd (false_true e)
in_list (x ∷ xs) zero e = omega arith
in_list (x ∷ xs) (suc g) e = omega (arith, in_list xs g e)
