-- The live session that a search of the slots found, and its key as a part of the store: laws for the proofs of the public calls.
-- Assumes nothing.
use Rattle.std.specs.Prelude.{◌≡◌, refl, Bool, true, false, cond, ◌&&◌, List, [], ◌∷◌, ℕ, zero, suc, ◌+◌, ◌*◌, ◌≤◌, ◌<◌, eqb, leb, ltb, length, take, drop}
use Rattle.std.proofs.Common.{sym, ap, ◌∙◌, suc-add, zero-add, drop-drop, take-take, ltb-true}
use Rattle.std.proofs.Math.Option.{none, some}
use Rattle.std.proofs.Math.Seq.{take-nil}
use Rattle.lists.specs.Test.{false_true, and_true}
use Rattle.lists.specs.Seek.{first_passes, index_first}
use Rattle.model.specs.Bytes.{part}
use Rattle.model.specs.declared.Session.{Session}
use Rattle.model.specs.declared.Table.{Table}
use Rattle.model.specs.Session.{area_size, World, Entry, free, slots_of, place_at, guest_at, area, key_start, key_len, key_of, accepts}
use Rattle.model.specs.View.{find, owned, given, live, live_at, entry_at, is_live, session_in}
use Rattle.model.specs.Data.{key_bytes}

-- a search that ended within the slots found a live session
pub found_live : (t : Table) (g n : ℕ) → live_at t g n < length (slots_of t) → live t g n (place_at t (live_at t g n)) ≡ true
found_live t g n h = first_passes (live t g n) (place_at t (live_at t g n)) (slots_of t) (index_first (live t g n) free (slots_of t) h)

-- ---- what the place i of the search tells of the session, in a table of 128 slots

alive_by : (b : Bool) (e : Entry) → b ≡ is_live (cond b (some e) none)
alive_by true e = refl
alive_by false e = refl

module _ (w : World) (g n i : ℕ) (m : length (slots_of w.table) ≡ 128) (e : i ≡ live_at w.table g n) where
  found : find w g n ≡ cond (ltb i 128) (some (entry_at w i)) none
  unfolding find
  found = rw (m, e)

-- a live session is the one at the place of the search
pub alive_found : (w : World) (g n : ℕ) → is_live (find w g n) ≡ true
    → (live_at w.table g n < length (slots_of w.table)) × (find w g n ≡ some (entry_at w (live_at w.table g n)))
unfolding find
alive_found w g n h = go (ltb (live_at w.table g n) (length (slots_of w.table))) refl h
  where
    go : (b : Bool) → ltb (live_at w.table g n) (length (slots_of w.table)) ≡ b
        → is_live (cond b (some (entry_at w (live_at w.table g n))) none) ≡ true
        → (live_at w.table g n < length (slots_of w.table)) × (cond b (some (entry_at w (live_at w.table g n))) none ≡ some (entry_at w (live_at w.table g n)))
    go true q h = (ltb-true (live_at w.table g n) (length (slots_of w.table)) q, refl)
    go false q h = absurd (false_true h)

-- and it passes step 4
pub alive_accepted : (w : World) (g n : ℕ) → is_live (find w g n) ≡ true → accepts w.table.config (session_in (find w g n)) ≡ true
alive_accepted w g n h =
    let (inside, here) = alive_found w g n h in
    let c = place_at w.table (live_at w.table g n) in
    let r = guest_at w.table g in
    let l = (and_true (owned g c && eqb c.number n) (given w.table.config r n c) (found_live w.table g n inside)).1 in
    rw here (and_true (r.attached && ltb 0 n && leb n r.last) (accepts w.table.config c.session) l).1

-- ---- keys

take_drop : (n b : ℕ) (l : List ℕ) → take n (drop b l) ≡ drop b (take (b + n) l)
take_drop n zero l = rw zero-add
take_drop n (suc b) [] = take-nil n ∙ rw suc-add
take_drop n (suc b) (x ∷ l) = take_drop n b l ∙ rw suc-add

-- a part of slot i's area is a part of the store
pub part_area : (b : List ℕ) (i at n : ℕ) → at + n ≤ area_size → part b (area_size * i + at) n ≡ part (area i b) at n
unfolding part
part_area b i at n h =
    let l = drop (area_size * i) b in
    ap (take n) (sym (drop-drop at (area_size * i) b))
    ∙ take_drop n at l
    ∙ ap (drop at) (sym (take-take (at + n) area_size l h))
    ∙ sym (take_drop n at (take area_size l))

-- the key of the live session x at place i, which the code cuts from the store
pub key_found : (w : World) (g n i : ℕ) (x : Session) → i ≡ live_at w.table g n → is_live (find w g n) ≡ true → x ≡ session_in (find w g n)
    → key_start x.service + key_len x ≤ area_size
    → part w.store (area_size * i + key_start x.service) (key_len x) ≡ key_bytes (find w g n)
unfolding key_of
key_found w g n i x e h q k =
    let f = (alive_found w g n h).1 in
    part_area w.store i (key_start x.service) (key_len x) k
    ∙ ap (λ (j : ℕ). part (area j w.store) (key_start x.service) (key_len x)) e
    ∙ ap (λ (y : Session). part (area (live_at w.table g n) w.store) (key_start y.service) (key_len y)) (q ∙ ap session_in f)
    ∙ sym (ap key_bytes f)
