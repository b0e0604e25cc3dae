-- The table with its flat key store follows the state of the theorems.
-- Assumes nothing.
use Rattle.std.specs.Prelude.{◌≡◌, refl, Bool, true, false, cond, List, ℕ, ◌-◌, ltb, length}
use Rattle.std.proofs.Common.{ap, ◌∙◌, arith, ltb-true, ltb-false}
use Rattle.std.proofs.Math.Option.{none, some}
use Rattle.lists.specs.Seek.{index, index_first, index_none}
use Rattle.lists.specs.Sum.{except, sum_same, except_same}
use Rattle.model.specs.Session.{slot_count, store_size, World, Place, free, slots_of, guest_at}
use Rattle.model.specs.View.{is_free, is_held, owned, live, live_at, holds, total, unmet, full, entry_at, find, view, setting}
use Rattle.history.specs.Cells as Cells
use Rattle.history.specs.Cells.{Cell, State, stored, no_cell}
use Rattle.follows.specs.Areas.{cells, get_or_cells, index_cells, count_cells, length_cells}

-- a slot with its area
abbrev pub cell_from : Place → List ℕ → Cell
cell_from c a = record { place = c; key = a }

abbrev pub state_of : World → State
state_of w = record { setting = setting w; cells = cells cell_from (slots_of w.table) w.store; guests = w.table.guests }

-- the theorems' test on live sessions
abbrev pub lives : World → ℕ → ℕ → Cell → Bool
lives w g n = Cells.matches (setting w) (guest_at w.table g) g n

-- ---- what the state says, in terms of slots and store

pub holds_slots : (w : World) (g : ℕ) → Cells.holds (state_of w) g ≡ holds w.table g
holds_slots w g = count_cells cell_from (owned g) (Cells.owns g) (λ c a. refl) (slots_of w.table) w.store

pub total_slots : (w : World) → Cells.total (state_of w) ≡ total w.table
total_slots w = count_cells cell_from is_held Cells.is_held (λ c a. refl) (slots_of w.table) w.store

pub full_slots : (w : World) (g : ℕ) → Cells.full (state_of w) g ≡ full w.table g
unfolding Cells.full full
full_slots w g =
    rw (
      holds_slots w g,
      total_slots w,
      count_cells cell_from is_free Cells.is_free (λ c a. refl) (slots_of w.table) w.store,
      sum_same 8 (except g (Cells.unmet (state_of w))) (except g (unmet w.table)) same_owed,
    )
  where
    same_owed : (h : ℕ) → except g (Cells.unmet (state_of w)) h ≡ except g (unmet w.table) h
    same_owed = except_same g (Cells.unmet (state_of w)) (unmet w.table) (λ h d. ap (λ n. (guest_at w.table h).reserve - n) (holds_slots w h))

-- a live session is that of its slot
find_slots : (w : World) (g n : ℕ) → (Cells.view (state_of w) g).find n ≡ find w g n
unfolding find
find_slots w g n = go (ltb (live_at w.table g n) (length l)) refl
  where
    l : List Place
    l = slots_of w.table

    b : List ℕ
    b = w.store

    place : index (lives w g n) (cells cell_from l b) ≡ live_at w.table g n
    place = index_cells cell_from (live w.table g n) (lives w g n) (λ c a. refl) l b

    go : (t : Bool) → ltb (live_at w.table g n) (length l) ≡ t → (Cells.view (state_of w) g).find n ≡ cond t (some (entry_at w (live_at w.table g n))) none
    go true e =
        let h = ltb-true (live_at w.table g n) (length l) e in
        let k = index_first (lives w g n) no_cell (cells cell_from l b) (omega (arith, length_cells cell_from l b, place)) in
        ap Cells.entry_of (rw place at k ∙ ap some (get_or_cells cell_from l b (live_at w.table g n) free no_cell h))
    go false e =
        let h = ltb-false (live_at w.table g n) (length l) e in
        ap Cells.entry_of (index_none (lives w g n) (cells cell_from l b) (omega (arith, length_cells cell_from l b, place)))

-- a guest's view of the state is its view of table and store
pub view_slots : (w : World) (g : ℕ) → Cells.view (state_of w) g ≡ view w g
view_slots w g i = record { guest = guest_at w.table g; holds = holds_slots w g i; find = λ n. find_slots w g n i }

-- ---- the theorems' state follows

-- 128 slots and 16,384 bytes
pub record Sized (w : World) : Type 0 where
  pub slots : length (slots_of w.table) ≡ slot_count
  pub store : length w.store ≡ store_size
