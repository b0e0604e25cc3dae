-- The table with its flat key store after an act is the state of the theorems after it.
-- Assumes nothing.
use Rattle.std.specs.Prelude.{◌≡◌, refl, Bool, true, false, cond, List, ℕ, ◌<◌, length, set}
use Rattle.std.proofs.Common.{sym, ap, ◌∙◌, arith, eqb-true}
use Rattle.std.proofs.Math.Option.{some}
use Rattle.std.proofs.lemmas.List.{length-replicate}
use Rattle.lists.specs.Seek.{index, first, swap, swap_set, first_index}
use Rattle.model.specs.declared.Table.{Table}
use Rattle.model.specs.Session.{slot_count, area_size, store_size, World, Place, free, slots_of, guest_at, zeros}
use Rattle.model.specs.View.{is_free, owned, live, free_at, live_at, setting}
use Rattle.model.specs.Act.{Act, refuse, pass, attach, create, destroy, released, table_after, store_after, with_area, wipe, after}
use Rattle.history.specs.Cells as Cells
use Rattle.history.specs.Cells.{Cell, State, stored, no_cell}
use Rattle.history.specs.Apply.{apply, release}
use Rattle.history.specs.Lawful.{Ready}
use Rattle.history.specs.Invariant.{Inv, setting_apply}
use Rattle.laws.specs.Slots.{new_place}
use Rattle.laws.proofs.Slots.{after_attach, after_create, after_destroy}
use Rattle.laws.specs.Areas.{put_flat, length_with_area, length_wipe}
use Rattle.follows.specs.Areas.{cells, set_cells, wipe_cells, index_cells, length_cells}
use Rattle.follows.specs.Follows.{cell_from, state_of, lives, Sized}

sized : (w : World) → Inv (state_of w) → stored (setting w) ≡ true → Sized w
sized w v e = record {
  slots = sym (length_cells cell_from (slots_of w.table) w.store) ∙ v.size;
  store = eqb-true (length w.store) store_size e;
}

-- while a guest is attached the sizes are right
sized_by : (w : World) (g : ℕ) → Inv (state_of w) → (guest_at w.table g).attached ≡ true → Sized w
sized_by w g v e = sized w v (v.stored g e)

-- a test on slots that does not look at the key area
abbrev Plain : (Place → Bool) → (Cell → Bool) → Type 0
Plain p q = (c : Place) (a : List ℕ) → q (cell_from c a) ≡ p c

-- what a test finds stands at a slot
place_in : (p : Place → Bool) (q : Cell → Bool) (w : World) (y : Cell) → Plain p q → Sized w → first q (state_of w).cells ≡ some y → index p (slots_of w.table) < slot_count
place_in p q w y e z f =
    let l = slots_of w.table in
    let b = w.store in
    omega (arith, (first_index q y no_cell (cells cell_from l b) f).0, index_cells cell_from p q e l b, length_cells cell_from l b, z.slots)

-- the found slot is replaced, with its area
swap_follows : (p : Place → Bool) (q : Cell → Bool) (w : World) (y : Cell) (x : Place) (a : List ℕ) → Plain p q → Sized w → length a ≡ area_size → first q (state_of w).cells ≡ some y
    → cells cell_from (set (slots_of w.table) (index p (slots_of w.table)) x) (with_area w.store (index p (slots_of w.table)) a)
    ≡ swap q (cell_from x a) (cells cell_from (slots_of w.table) w.store)
swap_follows p q w y x a e z ha f =
    let l = slots_of w.table in
    let b = w.store in
    rw (← put_flat (index p l) a b, swap_set q (cell_from x a) (cells cell_from l b), index_cells cell_from p q e l b)
    (set_cells cell_from l b (index p l) x a ha (omega (arith, place_in p q w y e z f, z.slots)) (omega (arith, z.slots, z.store)))

-- and the store keeps its length
length_follows : (p : Place → Bool) (q : Cell → Bool) (w : World) (y : Cell) (a : List ℕ) → Plain p q → Sized w → length a ≡ area_size → first q (state_of w).cells ≡ some y
    → length (with_area w.store (index p (slots_of w.table)) a) ≡ length w.store
length_follows p q w y a e z ha f = length_with_area w.store (index p (slots_of w.table)) a ha (omega (arith, z.store, place_in p q w y e z f))

length_after : (w : World) (g : ℕ) (a : Act) → Inv (state_of w) → Ready (state_of w) g a → length (store_after w.table w.store g a) ≡ length w.store
unfolding store_after
length_after w g (refuse n) v f = refl
length_after w g pass v f = refl
length_after w g attach v f =
    let z = sized w v f.1 in
    length_wipe (owned g) (slots_of w.table) w.store (omega (arith, z.slots, z.store))
length_after w g (create e) v f =
    length_follows is_free Cells.is_free w f.1.cell e.key (λ c a. refl) (sized_by w g v f.0.attached) f.0.sound.whole f.1.free
length_after w g (destroy n) v f =
    length_follows (live w.table g n) (lives w g n) w f.cell zeros (λ c a. refl) (sized_by w g v f.attached) (length-replicate {A = ℕ} area_size 0) f.found

cells_after : (w : World) (g : ℕ) (a : Act) → Inv (state_of w) → Ready (state_of w) g a → (state_of (after w g a)).cells ≡ (apply (state_of w) g a).cells
unfolding table_after store_after apply
cells_after w g (refuse n) v f = refl
cells_after w g pass v f = refl
cells_after w g attach v f =
    let z = sized w v f.1 in
    let b = wipe (owned g) (slots_of w.table) w.store in
    ap (λ l. cells cell_from l b) (after_attach w.table g).2
    ∙ wipe_cells cell_from (owned g) (released g) (release g) cleared (slots_of w.table) w.store (omega (arith, z.slots, z.store))
  where
    cleared : (c : Place) (a : List ℕ) → release g (cell_from c a) ≡ cell_from (released g c) (cond (owned g c) zeros a)
    cleared c a = go (owned g c)
      where
        go : (t : Bool) → cond t no_cell (cell_from c a) ≡ cell_from (cond t free c) (cond t zeros a)
        go true = refl
        go false = refl
cells_after w g (create e) v f =
    let z = sized_by w g v f.0.attached in
    let i = free_at w.table in
    ap (λ l. cells cell_from l (with_area w.store i e.key)) (after_create w.table g e).2
    ∙ swap_follows is_free Cells.is_free w f.1.cell (new_place w.table g e) e.key (λ c a. refl) z f.0.sound.whole f.1.free
cells_after w g (destroy n) v f =
    let z = sized_by w g v f.attached in
    let i = live_at w.table g n in
    ap (λ l. cells cell_from l (with_area w.store i zeros)) (after_destroy w.table g n).2
    ∙ swap_follows (live w.table g n) (lives w g n) w f.cell free zeros (λ c a. refl) z (length-replicate {A = ℕ} area_size 0) f.found

-- the configuration stays, and the guests change as the theorems' do
config_after : (t : Table) (g : ℕ) (a : Act) → (table_after t g a).config ≡ t.config
unfolding table_after
config_after t g (refuse n) = refl
config_after t g pass = refl
config_after t g attach = (after_attach t g).0
config_after t g (create e) = (after_create t g e).0
config_after t g (destroy n) = (after_destroy t g n).0

guests_after_lem : (w : World) (g : ℕ) (a : Act) → (table_after w.table g a).guests ≡ (apply (state_of w) g a).guests
unfolding table_after apply
guests_after_lem w g (refuse n) = refl
guests_after_lem w g pass = refl
guests_after_lem w g attach = (after_attach w.table g).1
guests_after_lem w g (create e) = (after_create w.table g e).1
guests_after_lem w g (destroy n) = (after_destroy w.table g n).1

-- the table and store after an act are the theorems' state after it
pub follows : (w : World) (g : ℕ) (a : Act) → Inv (state_of w) → Ready (state_of w) g a → state_of (after w g a) ≡ apply (state_of w) g a
follows w g a v f = kept ∙ sym setting_kept
  where
    s : State
    s = apply (state_of w) g a

    kept : state_of (after w g a) ≡ record { setting = setting w; cells = s.cells; guests = s.guests }
    kept i = record {
      setting = record { config = config_after w.table g a i; store = length_after w g a v f i };
      cells = cells_after w g a v f i;
      guests = guests_after_lem w g a i;
    }

    setting_kept : s ≡ record { setting = setting w; cells = s.cells; guests = s.guests }
    setting_kept i = record { setting = setting_apply (state_of w) g a i; cells = s.cells; guests = s.guests }
