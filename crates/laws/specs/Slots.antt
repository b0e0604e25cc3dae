-- What `with_slot`, `without` and `with_guest` do to the slots of a table, and how the table keeps them. Above this file the slots are known by
-- these laws alone: another way to mark a held slot proves them anew, and nothing else.
-- Assumes nothing.
use Rattle.std.specs.Prelude.{◌≡◌, not, List, map, ℕ, suc, ◌≤◌, ◌<◌, ◌^◌, length, replicate, set, get_or}
use Rattle.std.proofs.Math.Path.{refl}
use Rattle.std.proofs.Common.{sym, ap, ◌∙◌, arith, length-set}
use Rattle.std.proofs.Math.Bool.{false}
use Rattle.std.proofs.lemmas.List.{length-map}
use Rattle.std.proofs.Math.Seq.{set_out}
use Rattle.lists.specs.Seek.{count, index, map_set, zip_left, zip_right, zip_maps, length_zip, length_zip_le, get_d_zip, count_map, index_map}
use Rattle.model.specs.declared.Config.{Config}
use Rattle.model.specs.declared.Guest.{Guest}
use Rattle.model.specs.declared.Table.{Table}
use Rattle.model.specs.Session.{slot_count, Place, Entry, free, holding, slot_of, place_of, bits_of, marks_of, occupied_by, marked, slots_of, with_slots, place_at, guest_at}
use Rattle.model.specs.View.{is_held, total, free_at}
use Rattle.model.specs.Act.{with_slot, released, without, with_guest}
use Rattle.model.specs.Setup.{fresh_table}
use Rattle.laws.specs.Bits.{length_marks, zip_marks, occupied_marks}

-- ---- slots that are kept come back

pub slots_le : (t : Table) → length (slots_of t) ≤ 128
unfolding slots_of
slots_le t = omega (arith, length_zip_le place_of (marks_of t.occupied) t.slots, length_marks t.occupied)

pub slots_kept : (t : Table) (l : List Place) → length l ≤ 128 → slots_of (with_slots t l) ≡ l
unfolding slots_of with_slots slot_of
slots_kept t l h =
    zip_marks place_of (map is_held l) (map slot_of l) (omega (arith, length-map l is_held, length-map l slot_of)) (omega (arith, length-map l slot_of))
    ∙ zip_maps place_of is_held slot_of (λ c. refl) l

pub slots_with : (t : Table) (i : ℕ) (c : Place) → slots_of (with_slot t i c) ≡ set (slots_of t) i c
unfolding with_slot
slots_with t i c = slots_kept t (set (slots_of t) i c) (omega (arith, length-set (slots_of t) i c, slots_le t))

pub slots_without : (t : Table) (g : ℕ) → slots_of (without t g) ≡ map (released g) (slots_of t)
unfolding without
slots_without t g = slots_kept t (map (released g) (slots_of t)) (omega (arith, length-map (slots_of t) (released g), slots_le t))

pub slots_guest : (t : Table) (g : ℕ) (r : Guest) → slots_of (with_guest t g r) ≡ slots_of t
unfolding slots_of with_guest
slots_guest t g r = refl

pub slots_fresh : (k : Config) (reserves caps : List ℕ) → slots_of (fresh_table k reserves caps) ≡ replicate slot_count free
unfolding slots_of fresh_table slot_of marks_of bits_of
slots_fresh k reserves caps = refl

-- the rest of the table stays
pub rest_with : (t : Table) (i : ℕ) (c : Place) → ((with_slot t i c).config ≡ t.config) × ((with_slot t i c).guests ≡ t.guests)
unfolding with_slot with_slots
rest_with t i c = (refl, refl)

pub rest_without : (t : Table) (g : ℕ) → ((without t g).config ≡ t.config) × ((without t g).guests ≡ t.guests)
unfolding without with_slots
rest_without t g = (refl, refl)

pub rest_guest : (t : Table) (g : ℕ) (r : Guest) → ((with_guest t g r).config ≡ t.config) × ((with_guest t g r).guests ≡ set t.guests g r)
unfolding with_guest
rest_guest t g r = (refl, refl)

-- ---- what an act leaves of a table: its configuration, its guests and its slots

abbrev pub Parts : Table → Config → List Guest → List Place → Type 0
Parts t k r l = (t.config ≡ k) × (t.guests ≡ r) × (slots_of t ≡ l)

-- the slot of a new session
abbrev pub new_place : Table → ℕ → Entry → Place
new_place t g e = holding g (suc (guest_at t g).last) e.session

-- ---- a table of 128 slots, as the code reads it

module _ (t : Table) (n : length t.slots ≡ 128) where
  pub slots_length : length (slots_of t) ≡ 128
  unfolding slots_of
  slots_length = omega (arith, length_zip place_of (marks_of t.occupied) t.slots (omega (arith, length_marks t.occupied)))

  -- slot i
  pub place_at_lem : (i : ℕ) → place_at t i ≡ place_of (marked t.occupied i) (get_or t.slots i (slot_of free))
  unfolding slots_of slot_of
  place_at_lem i = get_d_zip place_of (marks_of t.occupied) t.slots i false (slot_of free) (omega (arith, length_marks t.occupied))

  -- the marks and the fields apart
  marks_kept : map is_held (slots_of t) ≡ marks_of t.occupied
  unfolding slots_of
  marks_kept = zip_left place_of is_held (λ b c. refl) (marks_of t.occupied) t.slots (omega (arith, length_marks t.occupied))

  fields_kept : map slot_of (slots_of t) ≡ t.slots
  unfolding slots_of slot_of
  fields_kept = zip_right place_of slot_of (λ b c. refl) (marks_of t.occupied) t.slots (omega (arith, length_marks t.occupied))

  -- what the marks alone tell
  pub total_marks : total t ≡ count (λ b. b) (marks_of t.occupied)
  total_marks = sym (count_map (λ b. b) is_held (slots_of t)) ∙ ap (count (λ b. b)) marks_kept

  pub free_marks : free_at t ≡ index not (marks_of t.occupied)
  free_marks = sym (index_map not is_held (slots_of t)) ∙ ap (index not) marks_kept

  -- a mark and its slot stored
  pub stored_at : (i : ℕ) (c : Place)
      → record { config = t.config; occupied = occupied_by (set (marks_of t.occupied) i c.held); slots = set t.slots i (slot_of c); guests = t.guests } ≡ with_slot t i c
  unfolding with_slot with_slots
  stored_at i c =
      rw (map_set is_held (slots_of t) i c, map_set slot_of (slots_of t) i c, marks_kept, fields_kept) refl

  -- words of 64 bits and the slots as they are
  module _ (h : t.occupied.low < 2 ^ 64) (k : t.occupied.high < 2 ^ 64) where
    pub slots_again : with_slots t (slots_of t) ≡ t
    unfolding with_slots
    slots_again = rw (marks_kept, fields_kept, occupied_marks t.occupied h k) refl

    -- past the end nothing is stored
    pub stored_past : (i : ℕ) (c : Place) → 128 ≤ i → t ≡ with_slot t i c
    unfolding with_slot
    stored_past i c l = rw (set_out (slots_of t) i c (omega (arith, slots_length))) (sym slots_again)
