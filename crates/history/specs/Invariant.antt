-- The invariant, and that every act keeps it.
-- Assumes nothing.
use Rattle.std.specs.Prelude.{◌≡◌, refl, ◌⊎◌, Bool, true, false, cond, not, ◌&&◌, map, ℕ, suc, ◌+◌, ◌-◌, ◌≤◌, ◌<◌, eqb, leb, length}
use Rattle.std.proofs.Common.{sym, ap, ◌∙◌, inl, inr, arith, eqb-true, leb-true, leb-false, length-set}
use Rattle.std.proofs.lemmas.List.{length-map}
use Rattle.lists.specs.Test.{false_true, and_true, same}
use Rattle.lists.specs.Seek.{one, count, swap, All, count_swap, count_map, count_same, count_none, count_split, count_le, length_swap, All-every, All-weaken}
use Rattle.lists.specs.Sum.{sum_to, except, sum_at, sum_same, except_same}
use Rattle.history.specs.Cells.{State, Cell, stored, view, guest_of, holds, total, unmet, owed, matches, named, owns, is_free, is_held, no_cell}
use Rattle.model.specs.Session.{slot_count, last_number, Entry}
use Rattle.model.specs.View.{View}
use Rattle.model.specs.Act.{Act, refuse, pass, attach, create, destroy, restarted, numbered}
use Rattle.history.specs.Apply.{apply, view_after, new_cell, release}
use Rattle.history.specs.Good.{Good, free_good, free_owns, unowned_named, fresh_number}
use Rattle.history.specs.Lawful.{Ready, Room, Found, in_list}
use Rattle.history.specs.Views.{AllGood, Unique, good_next, own, other, freed, found_owns}

pub record Inv (s : State) : Type 0 where
  pub size : length s.cells ≡ slot_count
  pub eight : length s.guests ≡ 8
  pub good : AllGood s
  pub unique : Unique s
  pub stored : (g : ℕ) → (guest_of s g).attached ≡ true → stored s.setting ≡ true
  pub shares : (g : ℕ) → (guest_of s g).reserve ≤ (guest_of s g).cap
  pub numbers : (g : ℕ) → (guest_of s g).last ≤ last_number
  pub caps : (g : ℕ) → holds s g ≤ (guest_of s g).cap
  pub spare : total s + sum_to 8 (unmet s) ≤ slot_count

-- ---- what a call changes, in numbers

-- a call of one guest leaves the others' unmet reserves
sum_after : (s t : State) (g : ℕ) → g < 8 → ((h : ℕ) → (h ≡ g → ⊥) → view t h ≡ view s h) → sum_to 8 (unmet t) ≡ unmet t g + owed s g
sum_after s t g b e =
    omega (arith, sum_at 8 g (unmet t) b, sum_same 8 (except g (unmet t)) (except g (unmet s)) (except_same g (unmet t) (unmet s) same_unmet))
  where
    same_unmet : (h : ℕ) → (h ≡ g → ⊥) → unmet t h ≡ unmet s h
    same_unmet h d = ap (λ v. v.guest.reserve - v.holds) (e h d)

-- caps and reserves stay
pub after_shares : (v : View) (a : Act) → ((view_after v a).guest.reserve ≡ v.guest.reserve) × ((view_after v a).guest.cap ≡ v.guest.cap)
unfolding view_after restarted numbered
after_shares v (refuse n) = (refl, refl)
after_shares v pass = (refl, refl)
after_shares v attach = (refl, refl)
after_shares v (create e) = (refl, refl)
after_shares v (destroy n) = (refl, refl)

-- how many slots are held
total_attach : (s : State) (g : ℕ) → count is_held (map (release g) s.cells) + holds s g ≡ total s
total_attach s g =
    let l = s.cells in
    let e = count_map is_held (release g) l in
    let k = count_same (λ c. is_held (release g c)) (λ c. is_held c && not (owns g c)) l (All-every (λ c. is_held (release g c) ≡ is_held c && not (owns g c)) kept l) in
    let m = count_same (λ c. is_held c && owns g c) (owns g) l (All-every (λ c. is_held c && owns g c ≡ owns g c) both l) in
    omega (arith, count_split is_held (owns g) l)
  where
    kept : (c : Cell) → is_held (release g c) ≡ is_held c && not (owns g c)
    kept c = go c.place.held refl (eqb c.place.owner g)
      where
        go : (b : Bool) → c.place.held ≡ b → (d : Bool) → is_held (cond (b && d) no_cell c) ≡ b && not (b && d)
        go true e true = refl
        go true e false = e
        go false e d = e

    both : (c : Cell) → is_held c && owns g c ≡ owns g c
    both c = go c.place.held (eqb c.place.owner g)
      where
        go : (b d : Bool) → b && (b && d) ≡ b && d
        go true d = refl
        go false d = refl

total_create : (s : State) (g : ℕ) (e : Entry) (r : Room s g) → count is_held (swap is_free (new_cell s g e) s.cells) ≡ suc (total s)
total_create s g e r =
    let k = rw (freed s g r) at (count_swap is_free is_held (new_cell s g e) r.cell s.cells r.free) in
    omega arith

found_held : (s : State) (g n : ℕ) (f : Found s g n) → f.cell.place.held ≡ true
found_held s g n f = (and_true f.cell.place.held (eqb f.cell.place.owner g) (found_owns s g n f)).0

total_destroy : (s : State) (g n : ℕ) → Found s g n → suc (count is_held (swap (matches s.setting (guest_of s g) g n) no_cell s.cells)) ≡ total s
total_destroy s g n f =
    let k = rw (found_held s g n f) at (count_swap (matches s.setting (guest_of s g) g n) is_held no_cell f.cell s.cells f.found) in
    omega arith

-- ---- each part of the invariant after an act

size_next : (s : State) (g : ℕ) (a : Act) → length s.cells ≡ slot_count → length (apply s g a).cells ≡ slot_count
unfolding apply
size_next s g (refuse n) e = e
size_next s g pass e = e
size_next s g attach e = length-map s.cells (release g) ∙ e
size_next s g (create x) e = length_swap is_free (new_cell s g x) s.cells ∙ e
size_next s g (destroy n) e = length_swap (matches s.setting (guest_of s g) g n) no_cell s.cells ∙ e

eight_next : (s : State) (g : ℕ) (a : Act) → length s.guests ≡ 8 → length (apply s g a).guests ≡ 8
unfolding apply
eight_next s g (refuse n) e = e
eight_next s g pass e = e
eight_next s g attach e = length-set s.guests g (restarted (guest_of s g)) ∙ e
eight_next s g (create x) e = length-set s.guests g (numbered (guest_of s g)) ∙ e
eight_next s g (destroy n) e = e

-- a new session's number is not in use
new_unique : (s : State) (g : ℕ) (e : Entry) → AllGood s → Unique s → Room s g → (h n : ℕ) → count (named h n) (swap is_free (new_cell s g e) s.cells) ≤ 1
new_unique s g e a u r h n = go (named h n (new_cell s g e)) refl (count_swap is_free (named h n) (new_cell s g e) r.cell s.cells r.free)
  where
    go : (t : Bool) → named h n (new_cell s g e) ≡ t
        → count (named h n) (swap is_free (new_cell s g e) s.cells) + one (named h n r.cell) ≡ count (named h n) s.cells + one t
        → count (named h n) (swap is_free (new_cell s g e) s.cells) ≤ 1
    go false q k = omega (arith, u h n)
    go true q k =
        let d = and_true (eqb g h) (eqb (suc (guest_of s g).last) n) q in
        let o : h ≡ g = sym (eqb-true g h d.0) in
        let m = eqb-true (suc (guest_of s g).last) n d.1 in
        let z : count (named h n) s.cells ≡ 0 = rw o (fresh_number s.setting s.guests g n s.cells (omega arith) a) in
        omega arith

unique_next : (s : State) (g : ℕ) (a : Act) → AllGood s → Unique s → Ready s g a → Unique (apply s g a)
unfolding apply
unique_next s g (refuse n) a u f h m = u h m
unique_next s g pass a u f h m = u h m
unique_next s g attach a u f h n =
    omega (arith, count_map (named h n) (release g) s.cells, u h n, count_le (λ c. named h n (release g c)) (named h n) kept s.cells)
  where
    kept : (c : Cell) → named h n (release g c) ≡ true → named h n c ≡ true
    kept c = go (owns g c)
      where
        go : (t : Bool) → named h n (cond t no_cell c) ≡ true → named h n c ≡ true
        go true e = absurd (false_true e)
        go false e = e
unique_next s g (create e) a u f h n = new_unique s g e a u f.1 h n
unique_next s g (destroy m) a u f h n =
    omega (arith, u h n, count_swap (matches s.setting (guest_of s g) g m) (named h n) no_cell f.cell s.cells f.found)

-- what holds of each guest's view holds after an act if it holds of the actor's own
view_next : (P : View → Type 0) (s : State) (g : ℕ) (a : Act) → Inv s → Ready s g a → ((h : ℕ) → P (view s h)) → P (view_after (view s g) a) → (h : ℕ) → P (view (apply s g a) h)
view_next P s g a v f p q h = go (same h g)
  where
    go : (h ≡ g) ⊎ (h ≡ g → ⊥) → P (view (apply s g a) h)
    go (inl e) = rw (e, own s g a v.eight v.good v.unique f) q
    go (inr d) = rw (other s g a h f d) (p h)

cap_after : (s : State) (g : ℕ) (a : Act) → Inv s → Ready s g a → (view_after (view s g) a).holds ≤ (view_after (view s g) a).guest.cap
unfolding view_after numbered
cap_after s g (refuse n) v f = v.caps g
cap_after s g pass v f = v.caps g
cap_after s g attach v f = omega arith
cap_after s g (create e) v f = f.1.below
cap_after s g (destroy n) v f = omega (arith, v.caps g)

last_after : (s : State) (g : ℕ) (a : Act) → Inv s → Ready s g a → (view_after (view s g) a).guest.last ≤ last_number
unfolding view_after restarted numbered
last_after s g (refuse n) v f = v.numbers g
last_after s g pass v f = v.numbers g
last_after s g attach v f = omega arith
last_after s g (create e) v f = f.0.left
last_after s g (destroy n) v f = v.numbers g

stored_after : (s : State) (g : ℕ) (a : Act) → Inv s → Ready s g a → (view_after (view s g) a).guest.attached ≡ true → stored s.setting ≡ true
unfolding view_after numbered
stored_after s g (refuse n) v f e = v.stored g e
stored_after s g pass v f e = v.stored g e
stored_after s g attach v f e = f.1
stored_after s g (create x) v f e = v.stored g e
stored_after s g (destroy n) v f e = v.stored g e

pub setting_apply : (s : State) (g : ℕ) (a : Act) → (apply s g a).setting ≡ s.setting
unfolding apply
setting_apply s g (refuse n) = refl
setting_apply s g pass = refl
setting_apply s g attach = refl
setting_apply s g (create e) = refl
setting_apply s g (destroy n) = refl

-- a guest's unmet reserve
abbrev short : View → ℕ
short v = v.guest.reserve - v.holds

-- the actor is below 8, and with its new view the reserves are kept
abbrev Kept : State → ℕ → Act → Type 0
Kept s g a = (g < 8) × (total (apply s g a) + short (view_after (view s g) a) + owed s g ≤ slot_count)

before : (s : State) (g : ℕ) → Inv s → g < 8 → total s + unmet s g + owed s g ≤ slot_count
before s g v b = omega (arith, sum_at 8 g (unmet s) b, v.spare)

pub below_eight : (s : State) (g : ℕ) → Inv s → (guest_of s g).attached ≡ true → g < 8
below_eight s g v e = omega (arith, in_list s.guests g e, v.eight)

kept_attach : (s : State) (g : ℕ) → Inv s → g < 8 → Kept s g attach
unfolding apply view_after restarted
kept_attach s g v f = (f, omega (arith, total_attach s g, before s g v f))

kept_create : (s : State) (g : ℕ) (e : Entry) → Inv s → Ready s g (create e) → Kept s g (create e)
unfolding apply view_after numbered
kept_create s g e v f = (low, go (leb (guest_of s g).reserve (holds s g)) refl)
  where
    low : g < 8
    low = below_eight s g v f.0.attached

    go : (t : Bool) → leb (guest_of s g).reserve (holds s g) ≡ t
        → count is_held (swap is_free (new_cell s g e) s.cells) + ((guest_of s g).reserve - suc (holds s g)) + owed s g ≤ slot_count
    go true q =
        let h = leb-true (guest_of s g).reserve (holds s g) q in
        omega (arith, total_create s g e f.1, f.1.spare h)
    go false q = omega (arith, leb-false (guest_of s g).reserve (holds s g) q, total_create s g e f.1, before s g v low)

kept_destroy : (s : State) (g n : ℕ) → Inv s → Found s g n → Kept s g (destroy n)
unfolding apply view_after
kept_destroy s g n v f =
    let low = below_eight s g v f.attached in
    (low, omega (arith, total_destroy s g n f, before s g v low))

spare_kept : (s : State) (g : ℕ) (a : Act) → Inv s → Ready s g a → Kept s g a → total (apply s g a) + sum_to 8 (unmet (apply s g a)) ≤ slot_count
spare_kept s g a v f h =
    let e : unmet (apply s g a) g ≡ short (view_after (view s g) a) = ap short (own s g a v.eight v.good v.unique f) in
    omega (arith, sum_after s (apply s g a) g h.0 (λ i d. other s g a i f d))

spare_next : (s : State) (g : ℕ) (a : Act) → Inv s → Ready s g a → total (apply s g a) + sum_to 8 (unmet (apply s g a)) ≤ slot_count
unfolding apply
spare_next s g (refuse n) v f = v.spare
spare_next s g pass v f = v.spare
spare_next s g attach v f = spare_kept s g attach v f (kept_attach s g v f.0)
spare_next s g (create e) v f = spare_kept s g (create e) v f (kept_create s g e v f)
spare_next s g (destroy n) v f = spare_kept s g (destroy n) v f (kept_destroy s g n v f)

pub inv_apply : (s : State) (g : ℕ) (a : Act) → Inv s → Ready s g a → Inv (apply s g a)
inv_apply s g a v f =
    let q = after_shares (view s g) a in
    record {
      size = size_next s g a v.size;
      eight = eight_next s g a v.eight;
      good = good_next s g a v.good f;
      unique = unique_next s g a v.good v.unique f;
      stored = λ h e. ap (λ k. stored k) (setting_apply s g a) ∙ view_next (λ w. w.guest.attached ≡ true → stored s.setting ≡ true) s g a v f v.stored (stored_after s g a v f) h e;
      shares = view_next (λ w. w.guest.reserve ≤ w.guest.cap) s g a v f v.shares (omega (arith, v.shares g));
      numbers = view_next (λ w. w.guest.last ≤ last_number) s g a v f v.numbers (last_after s g a v f);
      caps = view_next (λ w. w.holds ≤ w.guest.cap) s g a v f v.caps (cap_after s g a v f);
      spare = spare_next s g a v f;
    }

-- reserves and caps stay
pub shares_apply : (s : State) (g : ℕ) (a : Act) → Inv s → Ready s g a → (h : ℕ)
    → ((guest_of (apply s g a) h).reserve ≡ (guest_of s h).reserve) × ((guest_of (apply s g a) h).cap ≡ (guest_of s h).cap)
shares_apply s g a v f h = go (same h g)
  where
    go : (h ≡ g) ⊎ (h ≡ g → ⊥) → ((guest_of (apply s g a) h).reserve ≡ (guest_of s h).reserve) × ((guest_of (apply s g a) h).cap ≡ (guest_of s h).cap)
    go (inl q) =
        let o = own s g a v.eight v.good v.unique f in
        let k = after_shares (view s g) a in
        rw q (ap (λ w. w.guest.reserve) o ∙ k.0, ap (λ w. w.guest.cap) o ∙ k.1)
    go (inr d) = let o = other s g a h f d in (ap (λ w. w.guest.reserve) o, ap (λ w. w.guest.cap) o)

-- ---- set-up

-- what a set-up leaves, good or refused: all slots free, no guest attached, and shares that fit
pub record Fresh (s : State) : Type 0 where
  pub size : length s.cells ≡ slot_count
  pub eight : length s.guests ≡ 8
  pub free : All (λ c. c.place.held ≡ false) s.cells
  pub unattached : (g : ℕ) → (guest_of s g).attached ≡ false
  pub unnumbered : (g : ℕ) → (guest_of s g).last ≡ 0
  pub within : (g : ℕ) → (guest_of s g).reserve ≤ (guest_of s g).cap
  pub sum : sum_to 8 (λ g. (guest_of s g).reserve) ≤ slot_count

-- nothing is held
pub none_held : (s : State) (p : Cell → Bool) → Fresh s → ((c : Cell) → c.place.held ≡ false → p c ≡ false) → count p s.cells ≡ 0
none_held s p f h = count_none p s.cells (All-weaken (λ c. c.place.held ≡ false) (λ c. p c ≡ false) h s.cells f.free)

pub inv_fresh : (s : State) → Fresh s → Inv s
inv_fresh s f = record {
  size = f.size;
  eight = f.eight;
  good = All-weaken (λ c. c.place.held ≡ false) (Good s.setting s.guests) (λ c. free_good s.setting s.guests c) s.cells f.free;
  unique = λ g n. omega (arith, none_held s (named g n) f (λ c e. unowned_named g n c (free_owns g c e)));
  stored = λ g e. absurd (false_true (sym (f.unattached g) ∙ e));
  shares = f.within;
  numbers = λ g. omega (arith, f.unnumbered g);
  caps = λ g. omega (arith, none_held s (owns g) f (free_owns g));
  spare =
      let m = sum_same 8 (unmet s) (λ g. (guest_of s g).reserve) (λ g. omega (arith, none_held s (owns g) f (free_owns g))) in
      omega (arith, none_held s is_held f (λ c e. e), f.sum);
}
