-- Ticket K2: the fields of a clear slot are never seen.
-- Assumes nothing.
use Rattle.std.specs.Prelude.{◌≡◌, Bool, ◌&&◌, List, [], ◌∷◌, ◌++◌, map, ℕ, suc, ◌-◌, ◌<◌, eqb, get_or, take, drop}
use Rattle.std.proofs.Math.Path.{refl, sym, ap}
use Rattle.std.proofs.Common.{◌∙◌, arith, ltb-true}
use Rattle.std.proofs.Math.Bool.{true, false, cond}
use Rattle.std.proofs.Math.Option.{none, some}
use Rattle.std.proofs.Math.Dec.{ltb}
use Rattle.std.proofs.Math.ListN.{length, set, length-map}
use Rattle.lists.specs.Test.{and_true}
use Rattle.lists.specs.Seek.{count, index, count_map, index_map, map_map, map_same, map_set, get_d_map}
use Rattle.lists.specs.Sum.{sum_to, except}
use Rattle.model.specs.declared.Guest.{Guest}
use Rattle.model.specs.declared.Table.{Table}
use Rattle.model.specs.Session.{World, Place, free, slots_of, with_slots, area_size, place_at, new_guest, guest_at, area, zeros, holding, slot_of, occupied_by}
use Rattle.model.specs.View.{is_held, is_free, owned, given, live, free_at, live_at, no_room, full, entry_at, find, view, setting}
use Rattle.model.specs.Act.{Act, refuse, pass, attach, create, destroy, released, restarted, numbered, table_after, store_after, with_area, wipe, after, judge}
use Rattle.model.specs.Answer.{first_fail}
use Rattle.model.specs.Device.{Request, checks_of, asks, outcome, checks, act, reply, next}
use Rattle.model.specs.Calls.{Call, run, outcomes}
use Rattle.laws.specs.Slots.{slots_kept, slots_le, new_place}
use Rattle.laws.proofs.Slots.{after_attach, after_create, after_destroy}
use Rattle.laws.specs.Found.{found_live}
use Rattle.demands.specs.Statement.{scrubbed, scrubbed_world, Alike, ClearSlots}

-- ---- a slot and its test

-- by whether the slot is held; it is known which where it counts
by_mark : (P : Place → Type 0) (c : Place) → (c.held ≡ true → P c) → (c.held ≡ false → P free) → P (scrubbed c)
by_mark P c h k = go c.held refl
  where
    go : (b : Bool) → c.held ≡ b → P (cond b c free)
    go true e = h e
    go false e = k e

-- a test that finds of every clear slot the same
abbrev Blind : (Place → Bool) → Type 0
Blind p = (c : Place) → c.held ≡ false → p free ≡ p c

blind_at : (p : Place → Bool) → Blind p → (c : Place) → p (scrubbed c) ≡ p c
blind_at p h c = by_mark (λ d. p d ≡ p c) c (λ e. refl) (h c)

blind_count : (p : Place → Bool) → Blind p → (l : List Place) → count p (map scrubbed l) ≡ count p l
blind_count p h l = count_map p scrubbed l ∙ ap (λ (q : Place → Bool). count q l) (λ i c. blind_at p h c i)

blind_index : (p : Place → Bool) → Blind p → (l : List Place) → index p (map scrubbed l) ≡ index p l
blind_index p h l = index_map p scrubbed l ∙ ap (λ (q : Place → Bool). index q l) (λ i c. blind_at p h c i)

blind_owned : (g : ℕ) → Blind (owned g)
blind_owned g c e = rw e refl

blind_held : Blind is_held
blind_held c e = sym e

blind_free : Blind is_free
blind_free c e = rw e refl

blind_live : (t : Table) (g n : ℕ) → Blind (live t g n)
blind_live t g n c e = rw e refl

-- ---- what every guest sees, in the table with its clear slots cleared

held_kept : (c : Place) → c.held ≡ true → scrubbed c ≡ c
held_kept c e = rw e refl

module _ (w : World) where
  abbrev t : Table
  t = w.table

  abbrev s : World
  s = scrubbed_world w

  slots : slots_of s.table ≡ map scrubbed (slots_of t)
  slots = slots_kept t (map scrubbed (slots_of t)) (omega (arith, length-map (slots_of t) scrubbed, slots_le t))

  config : s.table.config ≡ t.config
  unfolding with_slots
  config = refl

  guests : s.table.guests ≡ t.guests
  unfolding with_slots
  guests = refl

  guest : (g : ℕ) → guest_at s.table g ≡ guest_at t g
  guest g = ap (λ (l : List Guest). get_or l g (new_guest 0 0)) guests

  counted : (p : Place → Bool) → Blind p → count p (slots_of s.table) ≡ count p (slots_of t)
  counted p h = ap (count p) slots ∙ blind_count p h (slots_of t)

  free_at_lem : free_at s.table ≡ free_at t
  free_at_lem = ap (index is_free) slots ∙ blind_index is_free blind_free (slots_of t)

  test : (g n : ℕ) → live s.table g n ≡ live t g n
  test g n i c = owned g c && eqb c.number n && given (config i) (guest g i) n c

  live_at_lem : (g n : ℕ) → live_at s.table g n ≡ live_at t g n
  live_at_lem g n =
      ap (λ (p : Place → Bool). index p (slots_of s.table)) (test g n)
      ∙ ap (index (live t g n)) slots
      ∙ blind_index (live t g n) (blind_live t g n) (slots_of t)

  -- a live session stands in a held slot
  session_at : (g n : ℕ) → live_at t g n < length (slots_of t) → place_at s.table (live_at t g n) ≡ place_at t (live_at t g n)
  session_at g n h =
      let c = place_at t (live_at t g n) in
      let own = (and_true (owned g c) (eqb c.number n) (and_true (owned g c && eqb c.number n) (given t.config (guest_at t g) n c) (found_live t g n h)).0).0 in
      ap (λ (l : List Place). get_or l (live_at t g n) free) slots
      ∙ get_d_map scrubbed (slots_of t) (live_at t g n) free
      ∙ held_kept c (and_true c.held (eqb c.owner g) own).0

  found : (g n : ℕ) → find s g n ≡ find w g n
  unfolding find
  found g n =
      let size = ap length slots ∙ length-map (slots_of t) scrubbed in
      rw (live_at_lem g n, size) (go (ltb (live_at t g n) (length (slots_of t))) refl)
    where
      go : (b : Bool) → ltb (live_at t g n) (length (slots_of t)) ≡ b
          → cond b (some (entry_at s (live_at t g n))) none ≡ cond b (some (entry_at w (live_at t g n))) none
      go true e = ap (λ (c : Place). some (record { session = c.session; key = area (live_at t g n) w.store })) (session_at g n (ltb-true (live_at t g n) (length (slots_of t)) e))
      go false e = refl

  same_setting : setting s ≡ setting w
  same_setting i = record { config = config i; store = length w.store }

  same_view : (g : ℕ) → view s g ≡ view w g
  same_view g i = record { guest = guest g i; holds = counted (owned g) (blind_owned g) i; find = λ n. found g n i }

  same_full : (g : ℕ) → full s.table g ≡ full t g
  unfolding full
  same_full g i =
      no_room (guest g i) (counted (owned g) (blind_owned g) i) (counted is_held blind_held i)
      (sum_to 8 (except g (λ h. (guest h i).reserve - counted (owned h) (blind_owned h) i))) (counted is_free blind_free i)

  same_reply : (g : ℕ) (q : Request) → reply s g q ≡ reply w g q
  unfolding reply checks
  same_reply g q i = outcome g (same_view g i) q (first_fail (checks_of (same_setting i) g (same_view g i) (same_full g i) q))

  same_act : (g : ℕ) (q : Request) → act s g q ≡ act w g q
  unfolding act checks
  same_act g q i = judge (checks_of (same_setting i) g (same_view g i) (same_full g i) q) (asks q)

-- ---- what an act leaves

-- two worlds are alike by these
alike : (x y : World) → x.table.config ≡ y.table.config → x.table.guests ≡ y.table.guests
    → map scrubbed (slots_of x.table) ≡ map scrubbed (slots_of y.table) → x.store ≡ y.store → Alike x y
unfolding with_slots
alike x y k r l b i = record {
  table = record { config = k i; occupied = occupied_by (map (λ c. c.held) (l i)); slots = map slot_of (l i); guests = r i };
  store = b i;
}

once : (l : List Place) → map scrubbed (map scrubbed l) ≡ map scrubbed l
once l = map_map scrubbed scrubbed l ∙ map_same (λ c. scrubbed (scrubbed c)) scrubbed (λ c. by_mark (λ d. scrubbed d ≡ scrubbed c) c (λ e. refl) (λ e. rw e refl)) l

once_set : (l : List Place) (i : ℕ) (c : Place) → map scrubbed (set (map scrubbed l) i c) ≡ map scrubbed (set l i c)
once_set l i c = map_set scrubbed (map scrubbed l) i c ∙ ap (λ (m : List Place). set m i (scrubbed c)) (once l) ∙ sym (map_set scrubbed l i c)

once_released : (g : ℕ) (l : List Place) → map scrubbed (map (released g) (map scrubbed l)) ≡ map scrubbed (map (released g) l)
once_released g l =
    ap (map scrubbed) (map_map (released g) scrubbed l)
    ∙ map_map scrubbed (λ c. released g (scrubbed c)) l
    ∙ map_same (λ c. scrubbed (released g (scrubbed c))) (λ c. scrubbed (released g c))
    (λ c. by_mark (λ d. scrubbed (released g d) ≡ scrubbed (released g c)) c (λ e. refl) (λ e. rw e refl)) l
    ∙ sym (map_map scrubbed (released g) l)

wipe_map : (p : Place → Bool) (f : Place → Place) (l : List Place) (b : List ℕ) → wipe p (map f l) b ≡ wipe (λ c. p (f c)) l b
unfolding wipe
wipe_map p f [] b = refl
wipe_map p f (c ∷ l) b = ap (λ (r : List ℕ). cond (p (f c)) zeros (take area_size b) ++ r) (wipe_map p f l (drop area_size b))

module _ (w : World) (g : ℕ) where
  abbrev u : Table
  u = (scrubbed_world w).table

  abbrev l : List Place
  l = slots_of w.table

  wiped : wipe (owned g) (slots_of u) w.store ≡ wipe (owned g) l w.store
  wiped =
      ap (λ (m : List Place). wipe (owned g) m w.store) (slots w)
      ∙ wipe_map (owned g) scrubbed l w.store
      ∙ ap (λ (p : Place → Bool). wipe p l w.store) (λ i c. blind_at (owned g) (blind_owned g) c i)

  same_after : (a : Act) → Alike (after (scrubbed_world w) g a) (after w g a)
  unfolding table_after store_after
  same_after (refuse n) = alike (scrubbed_world w) w (config w) (guests w) (ap (map scrubbed) (slots w) ∙ once l) refl
  same_after pass = alike (scrubbed_world w) w (config w) (guests w) (ap (map scrubbed) (slots w) ∙ once l) refl
  same_after attach =
      let p = after_attach u g in
      let q = after_attach w.table g in
      alike _ _ (p.0 ∙ config w ∙ sym q.0) (p.1 ∙ (λ i. set (guests w i) g (restarted (guest w g i))) ∙ sym q.1)
      (ap (map scrubbed) (p.2 ∙ ap (map (released g)) (slots w)) ∙ once_released g l ∙ sym (ap (map scrubbed) q.2)) wiped
  same_after (create e) =
      let p = after_create u g e in
      let q = after_create w.table g e in
      alike _ _ (p.0 ∙ config w ∙ sym q.0) (p.1 ∙ (λ i. set (guests w i) g (numbered (guest w g i))) ∙ sym q.1)
      (ap (map scrubbed) (p.2 ∙ (λ i. set (slots w i) (free_at_lem w i) (holding g (suc (guest w g i).last) e.session)))
      ∙ once_set l (free_at w.table) (new_place w.table g e) ∙ sym (ap (map scrubbed) q.2))
      (ap (λ (i : ℕ). with_area w.store i e.key) (free_at_lem w))
  same_after (destroy n) =
      let p = after_destroy u g n in
      let q = after_destroy w.table g n in
      alike _ _ (p.0 ∙ config w ∙ sym q.0) (p.1 ∙ guests w ∙ sym q.1)
      (ap (map scrubbed) (p.2 ∙ (λ i. set (slots w i) (live_at_lem w g n i) free)) ∙ once_set l (live_at w.table g n) free ∙ sym (ap (map scrubbed) q.2))
      (ap (λ (i : ℕ). with_area w.store i zeros) (live_at_lem w g n))

  same_next : (q : Request) → Alike (next (scrubbed_world w) g q) (next w g q)
  unfolding next
  same_next q = ap (λ (a : Act). scrubbed_world (after (scrubbed_world w) g a)) (same_act w g q) ∙ same_after (act w g q)

-- ---- any list of calls

alike_reply : (w x : World) → Alike w x → (g : ℕ) (q : Request) → reply w g q ≡ reply x g q
alike_reply w x e g q = sym (same_reply w g q) ∙ ap (λ (y : World). reply y g q) e ∙ same_reply x g q

alike_next : (w x : World) → Alike w x → (g : ℕ) (q : Request) → Alike (next w g q) (next x g q)
alike_next w x e g q = sym (same_next w g q) ∙ ap (λ (y : World). scrubbed_world (next y g q)) e ∙ same_next x g q

alike_run : (w x : World) (cs : List (Call Request)) → Alike w x → Alike (run w cs) (run x cs)
unfolding run
alike_run w x [] e = e
alike_run w x (c ∷ cs) e = alike_run (next w c.guest c.request) (next x c.guest c.request) cs (alike_next w x e c.guest c.request)

alike_outcomes : (g : ℕ) (w x : World) (cs : List (Call Request)) → Alike w x → outcomes g w cs ≡ outcomes g x cs
unfolding outcomes
alike_outcomes g w x [] e = refl
alike_outcomes g w x (c ∷ cs) e =
    let rest = alike_outcomes g (next w c.guest c.request) (next x c.guest c.request) cs (alike_next w x e c.guest c.request) in
    λ i. cond (eqb c.guest g) (alike_reply w x e c.guest c.request i ∷ rest i) (rest i)

pub clear_slots : (w x : World) (cs : List (Call Request)) → Alike w x → ClearSlots w x cs
clear_slots w x cs e = record { same = λ g. alike_outcomes g w x cs e; after = alike_run w x cs e }
