-- A guest's view after a granted call: its own calls change it as `view_after` says, and others' calls leave it.
-- Assumes nothing.
use Rattle.std.specs.Prelude.{◌≡◌, refl, Bool, true, false, cond, List, map, ℕ, suc, ◌-◌, ◌≤◌, ◌<◌, eqb, length, get_or, set}
use Rattle.std.proofs.Common.{sym, ap, ◌∙◌, arith, eqb-true, eq-eqb, ne_eqb, get_or-set_same, get_or-set_other}
use Rattle.std.proofs.Math.Option.{none, some}
use Rattle.std.proofs.lemmas.Bool.{eqb-false, not-true as not-held}
use Rattle.lists.specs.Test.{and_true, not_true}
use Rattle.lists.specs.Seek.{count, first, swap, All, count_swap, count_swap_other, first_passes, first_none, first_swap_other, first_swap_new, count_same, count_none, count_map, first_map, All-every, All-swap, All-weaken, All-map}
use Rattle.model.specs.declared.Guest.{Guest}
use Rattle.history.specs.Cells.{State, Cell, view, view_in, guest_of, matches, named, owns, is_free, no_cell, entry_of}
use Rattle.model.specs.View.{Setting}
use Rattle.model.specs.Session.{Entry, new_guest}
use Rattle.model.specs.Act.{Act, refuse, pass, attach, create, destroy, restarted, numbered}
use Rattle.history.specs.Apply.{apply, view_after, new_cell, release}
use Rattle.history.specs.Good.{Good, named_true, free_owns, other_owns, unowned_matches, unowned_named, first_named, fresh_number, free_good, good_create, good_attach}
use Rattle.history.specs.Lawful.{Ready, Creatable, Room, Found, in_list}

-- ---- another guest's call

owner_of : (g : ℕ) (c : Cell) → owns g c ≡ true → c.place.owner ≡ g
owner_of g c e = eqb-true c.place.owner g (and_true c.place.held (eqb c.place.owner g) e).1

-- a slot has one owner
pub one_owner : (g h : ℕ) (c : Cell) → (g ≡ h → ⊥) → owns h c ≡ true → owns g c ≡ false
one_owner g h c d e = other_owns g c (λ o. d (sym o ∙ owner_of h c e))

pub matches_owns : (k : Setting) (r : Guest) (g n : ℕ) (c : Cell) → matches k r g n c ≡ true → owns g c ≡ true
matches_owns k r g n c e = (and_true (owns g c) (eqb c.place.number n) (and_true (named g n c) _ e).0).0

-- a replacement of a slot of others by one of others
swap_view : (k : Setting) (r : Guest) (g : ℕ) (p : Cell → Bool) (x y : Cell) (cs : List Cell)
    → first p cs ≡ some y → owns g y ≡ false → owns g x ≡ false → view_in k r (swap p x cs) g ≡ view_in k r cs g
swap_view k r g p x y cs e hy hx i = record {
  guest = r;
  holds = count_swap_other p (owns g) x y cs e hy hx i;
  find = λ n. entry_of (first_swap_other p (matches k r g n) x y cs e (unowned_matches k r g n y hy) (unowned_matches k r g n x hx) i);
}

-- a release of others' slots
release_owns : (g h : ℕ) (c : Cell) → (g ≡ h → ⊥) → owns g (release h c) ≡ owns g c
release_owns g h c d = go (owns h c) refl
  where
    go : (b : Bool) → owns h c ≡ b → owns g (cond b no_cell c) ≡ owns g c
    go true e = sym (one_owner g h c d e)
    go false e = refl

release_matches : (k : Setting) (r : Guest) (g h n : ℕ) (c : Cell) → (g ≡ h → ⊥) → matches k r g n (release h c) ≡ matches k r g n c
release_matches k r g h n c d = go (owns h c) refl
  where
    go : (b : Bool) → owns h c ≡ b → matches k r g n (cond b no_cell c) ≡ matches k r g n c
    go true e = sym (unowned_matches k r g n c (one_owner g h c d e))
    go false e = refl

release_fixed : (k : Setting) (r : Guest) (g h n : ℕ) (c : Cell) → (g ≡ h → ⊥) → matches k r g n c ≡ true → release h c ≡ c
release_fixed k r g h n c d e = rw (one_owner h g c (λ q. d (sym q)) (matches_owns k r g n c e))

release_view : (k : Setting) (r : Guest) (g h : ℕ) (cs : List Cell) → (g ≡ h → ⊥) → view_in k r (map (release h) cs) g ≡ view_in k r cs g
release_view k r g h cs d i = record {
  guest = r;
  holds = holds i;
  find = λ n. entry_of (first_map (matches k r g n) (release h) (λ c. release_matches k r g h n c d) (λ c. release_fixed k r g h n c d) cs i);
}
  where
    holds : count (owns g) (map (release h) cs) ≡ count (owns g) cs
    holds =
        count_map (owns g) (release h) cs
        ∙ count_same (λ c. owns g (release h c)) (owns g) cs (All-every (λ c. owns g (release h c) ≡ owns g c) (λ c. release_owns g h c d) cs)

pub freed : (s : State) (g : ℕ) (r : Room s g) → r.cell.place.held ≡ false
freed s g r = not-held r.cell.place.held (first_passes is_free r.cell s.cells r.free)

found_passes : (s : State) (g n : ℕ) (f : Found s g n) → matches s.setting (guest_of s g) g n f.cell ≡ true
found_passes s g n f = first_passes (matches s.setting (guest_of s g) g n) f.cell s.cells f.found

-- the slot of a live session of g is owned by g
pub found_owns : (s : State) (g n : ℕ) (f : Found s g n) → owns g f.cell ≡ true
found_owns s g n f = matches_owns s.setting (guest_of s g) g n f.cell (found_passes s g n f)

-- guest g's view after an act of another guest
pub other : (s : State) (h : ℕ) (a : Act) (g : ℕ) → Ready s h a → (g ≡ h → ⊥) → view (apply s h a) g ≡ view s g
unfolding apply
other s h (refuse n) g f d = refl
other s h pass g f d = refl
other s h attach g f d =
    ap (λ r. view_in s.setting r (map (release h) s.cells) g) (get_or-set_other s.guests h g (restarted (guest_of s h)) (new_guest 0 0) d)
    ∙ release_view s.setting (guest_of s g) g h s.cells d
other s h (create e) g f d =
    let r = f.1 in
    let n = new_cell s h e in
    ap (λ r. view_in s.setting r (swap is_free n s.cells) g) (get_or-set_other s.guests h g (numbered (guest_of s h)) (new_guest 0 0) d)
    ∙ swap_view s.setting (guest_of s g) g is_free n r.cell s.cells r.free (free_owns g r.cell (freed s h r)) (other_owns g n (λ o. d (sym o)))
other s h (destroy n) g f d =
    swap_view s.setting (guest_of s g) g (matches s.setting (guest_of s h) h n) no_cell f.cell s.cells f.found
    (one_owner g h f.cell d (found_owns s h n f)) refl

-- ---- a guest's own call

abbrev pub AllGood : State → Type 0
AllGood s = All (Good s.setting s.guests) s.cells

-- no two held slots share owner and number
abbrev pub Unique : State → Type 0
Unique s = (g n : ℕ) → count (named g n) s.cells ≤ 1

abbrev pub guests_after : State → ℕ → List Guest
guests_after s g = set s.guests g (numbered (guest_of s g))

new_good : (s : State) (g : ℕ) (e : Entry) → Creatable s.setting (view s g) e → Good s.setting (guests_after s g) (new_cell s g e)
unfolding numbered
new_good s g e f h =
    rw (get_or-set_same s.guests g (numbered (guest_of s g)) (new_guest 0 0) (in_list s.guests g f.attached))
    record { attached = f.attached; low = omega arith; high = omega arith; sound = f.sound.accepted }

pub found_named : (s : State) (g n : ℕ) (f : Found s g n) → named g n f.cell ≡ true
found_named s g n f = (and_true (named g n f.cell) _ (found_passes s g n f)).0

pub good_next : (s : State) (g : ℕ) (a : Act) → AllGood s → Ready s g a → AllGood (apply s g a)
unfolding apply
good_next s g (refuse n) a f = a
good_next s g pass a f = a
good_next s g attach a f = All-map (Good s.setting s.guests) _ (release g) (λ c. good_attach s.setting s.guests g c) s.cells a
good_next s g (create e) a f =
    All-swap (Good s.setting (guests_after s g)) is_free (new_cell s g e) s.cells (new_good s g e f.0)
    (All-weaken (Good s.setting s.guests) (Good s.setting (guests_after s g))
    (λ c. good_create s.setting s.guests g c (in_list s.guests g f.0.attached)) s.cells a)
good_next s g (destroy n) a f = All-swap (Good s.setting s.guests) _ no_cell s.cells (free_good s.setting s.guests no_cell refl) a

-- attach: nothing of the guest is left
release_own : (g : ℕ) (c : Cell) → owns g (release g c) ≡ false
release_own g c = go (owns g c) refl
  where
    go : (b : Bool) → owns g c ≡ b → owns g (cond b no_cell c) ≡ false
    go true e = refl
    go false e = e

own_attach : (s : State) (g : ℕ) → g < length s.guests → view (apply s g attach) g ≡ view_after (view s g) attach
unfolding apply view_after
own_attach s g h i = record { guest = guest i; holds = holds i; find = λ n. entry_of (gone n i) }
  where
    guest : get_or (set s.guests g (restarted (guest_of s g))) g (new_guest 0 0) ≡ restarted (guest_of s g)
    guest = get_or-set_same s.guests g (restarted (guest_of s g)) (new_guest 0 0) h

    holds : count (owns g) (map (release g) s.cells) ≡ 0
    holds =
        count_map (owns g) (release g) s.cells
        ∙ count_none (λ c. owns g (release g c)) s.cells (All-every (λ c. owns g (release g c) ≡ false) (release_own g) s.cells)

    gone : (n : ℕ) → first (matches s.setting (get_or (set s.guests g (restarted (guest_of s g))) g (new_guest 0 0)) g n) (map (release g) s.cells) ≡ none
    gone n =
        let q = matches s.setting (get_or (set s.guests g (restarted (guest_of s g))) g (new_guest 0 0)) g n in
        first_none q (map (release g) s.cells)
        (count_map q (release g) s.cells
        ∙ count_none (λ c. q (release g c)) s.cells (All-every (λ c. q (release g c) ≡ false)
        (λ c. unowned_matches s.setting (get_or (set s.guests g (restarted (guest_of s g))) g (new_guest 0 0)) g n (release g c) (release_own g c)) s.cells))

own_create : (s : State) (g : ℕ) (e : Entry) → AllGood s → Ready s g (create e) → view (apply s g (create e)) g ≡ view_after (view s g) (create e)
unfolding apply view_after
own_create s g e a f i = record { guest = guest i; holds = holds i; find = λ n. entry n (eqb n (suc (guest_of s g).last)) refl i }
  where
    r : Room s g
    r = f.1

    new : Cell
    new = new_cell s g e

    guest : get_or (guests_after s g) g (new_guest 0 0) ≡ numbered (guest_of s g)
    guest = get_or-set_same s.guests g (numbered (guest_of s g)) (new_guest 0 0) (in_list s.guests g f.0.attached)

    holds : count (owns g) (swap is_free new s.cells) ≡ suc (count (owns g) s.cells)
    holds =
        let k = rw (free_owns g r.cell (freed s g r), eq-eqb g g refl) at (count_swap is_free (owns g) new r.cell s.cells r.free) in
        omega arith

    named_new : (n : ℕ) (t : Bool) → eqb (suc (guest_of s g).last) n ≡ t → named g n new ≡ t
    named_new n t q = rw (eq-eqb g g refl, q)

    good : All (Good s.setting (guests_after s g)) (swap is_free new s.cells)
    good = good_next s g (create e) a f

    entry : (n : ℕ) (t : Bool) → eqb n (suc (guest_of s g).last) ≡ t
        → entry_of (first (matches s.setting (get_or (guests_after s g) g (new_guest 0 0)) g n) (swap is_free new s.cells))
        ≡ cond t (some e) (entry_of (first (matches s.setting (guest_of s g) g n) s.cells))
    entry n true t =
        let q : n ≡ suc (guest_of s g).last = eqb-true n _ t in
        ap entry_of (first_named s.setting (guests_after s g) g n (swap is_free new s.cells) good
        ∙ first_swap_new is_free (named g n) new r.cell s.cells r.free
        (fresh_number s.setting s.guests g n s.cells (omega arith) a) (named_new n true (eq-eqb _ n (sym q))))
    entry n false t =
        let q : n ≡ suc (guest_of s g).last → ⊥ = eqb-false n _ t in
        ap entry_of (first_named s.setting (guests_after s g) g n (swap is_free new s.cells) good
        ∙ first_swap_other is_free (named g n) new r.cell s.cells r.free
        (unowned_named g n r.cell (free_owns g r.cell (freed s g r))) (named_new n false (ne_eqb _ n (λ o. q (sym o))))
        ∙ sym (first_named s.setting s.guests g n s.cells a))

-- a live session has one number
miss : (s : State) (g n m : ℕ) (f : Found s g n) → (m ≡ n → ⊥) → matches s.setting (guest_of s g) g m f.cell ≡ false
miss s g n m f d = not_true (matches s.setting (guest_of s g) g m f.cell) (λ e.
    let a = named_true g n f.cell (found_named s g n f) in
    let b = named_true g m f.cell (and_true (named g m f.cell) _ e).0 in
    d (sym b.2 ∙ a.2))

own_destroy : (s : State) (g n : ℕ) → AllGood s → Unique s → Found s g n → view (apply s g (destroy n)) g ≡ view_after (view s g) (destroy n)
unfolding apply view_after
own_destroy s g n a u f i = record { guest = guest_of s g; holds = holds i; find = λ m. entry m (eqb m n) refl i }
  where
    p : Cell → Bool
    p = matches s.setting (guest_of s g) g n

    holds : count (owns g) (swap p no_cell s.cells) ≡ count (owns g) s.cells - 1
    holds =
        let k = rw (found_owns s g n f) at (count_swap p (owns g) no_cell f.cell s.cells f.found) in
        omega arith

    none_left : count (named g n) (swap p no_cell s.cells) ≡ 0
    none_left =
        let h = found_named s g n f in
        let k = rw h at (count_swap p (named g n) no_cell f.cell s.cells f.found) in
        omega (arith, u g n)

    good : All (Good s.setting s.guests) (swap p no_cell s.cells)
    good = good_next s g (destroy n) a f

    entry : (m : ℕ) (t : Bool) → eqb m n ≡ t
        → entry_of (first (matches s.setting (guest_of s g) g m) (swap p no_cell s.cells))
        ≡ cond t none (entry_of (first (matches s.setting (guest_of s g) g m) s.cells))
    entry m true e =
        let q : m ≡ n = eqb-true m n e in
        ap entry_of (first_named s.setting s.guests g m (swap p no_cell s.cells) good ∙ first_none (named g m) (swap p no_cell s.cells) (rw q none_left))
    entry m false e =
        ap entry_of (first_swap_other p (matches s.setting (guest_of s g) g m) no_cell f.cell s.cells f.found (miss s g n m f (eqb-false m n e)) refl)

-- a guest's view after its own act
pub own : (s : State) (g : ℕ) (a : Act) → length s.guests ≡ 8 → AllGood s → Unique s → Ready s g a → view (apply s g a) g ≡ view_after (view s g) a
unfolding apply view_after
own s g (refuse n) l a u f = refl
own s g pass l a u f = refl
own s g attach l a u f = own_attach s g (omega arith)
own s g (create e) l a u f = own_create s g e a f
own s g (destroy n) l a u f = own_destroy s g n a u f
