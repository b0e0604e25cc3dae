-- Paper 01, "The session table" and steps 4 and 5 of "Control requests": what a call does to table and key store. [5.3, 8.11, 8.13]
-- Each request becomes one act.
use Rattle.std.specs.Prelude.{ℕ, suc, ◌+◌, ◌*◌, Bool, true, cond, List, [], ◌∷◌, ◌++◌, map, set, take, drop}
use Rattle.model.specs.declared.Guest.{Guest}
use Rattle.model.specs.declared.Table.{Table}
use Rattle.model.specs.Answer.{ok, Check}
use Rattle.model.specs.Session.{area_size, World, Place, free, holding, slots_of, with_slots, guest_at, zeros, Entry}
use Rattle.model.specs.View.{owned, free_at, live_at}

pub data Act : Type 0 where
  -- refused with this answer, changing nothing
  refuse : ℕ → Act
  -- granted, changing nothing
  pass : Act
  attach : Act
  create : Entry → Act
  destroy : ℕ → Act

-- the act where every check holds, else a refusal with the number beside the first that fails
abbrev pub judge : List Check → Act → Act
judge [] a = a
judge (c ∷ cs) a = cond c.0 (judge cs a) (refuse c.1)

-- the answer of an act
abbrev pub answer_of : Act → ℕ
answer_of (refuse n) = n
answer_of pass = ok
answer_of attach = ok
answer_of (create e) = ok
answer_of (destroy n) = ok

-- ---- the table

unfoldable pub with_slot : Table → ℕ → Place → Table
with_slot t i c = with_slots t (set (slots_of t) i c)

-- the slot freed, its fields cleared, if it names g as owner [5.3]
abbrev pub released : ℕ → Place → Place
released g c = cond (owned g c) free c

unfoldable pub without : Table → ℕ → Table
without t g = with_slots t (map (released g) (slots_of t))

unfoldable pub with_guest : Table → ℕ → Guest → Table
with_guest t g r = record { config = t.config; occupied = t.occupied; slots = t.slots; guests = set t.guests g r }

-- an attach restarts the guest's numbers, and a granted create takes the next [5.3, 6.6]
unfoldable pub restarted : Guest → Guest
restarted r = record { attached = true; reserve = r.reserve; cap = r.cap; last = 0 }

unfoldable pub numbered : Guest → Guest
numbered r = record { attached = r.attached; reserve = r.reserve; cap = r.cap; last = suc r.last }

unfoldable pub table_after : Table → ℕ → Act → Table
table_after t g (refuse n) = t
table_after t g pass = t
table_after t g attach = with_guest (without t g) g (restarted (guest_at t g))
table_after t g (create e) = with_guest (with_slot t (free_at t) (holding g (suc (guest_at t g).last) e.session)) g (numbered (guest_at t g))
table_after t g (destroy n) = with_slot t (live_at t g n) free

-- ---- the key store

-- the store with the area of slot i replaced
unfoldable pub with_area : List ℕ → ℕ → List ℕ → List ℕ
with_area b i a = take (area_size * i) b ++ (a ++ drop (area_size * i + area_size) b)

-- the store with the areas of the slots that pass zeroed [7.3]
unfoldable pub wipe : {A : Type 0} → (A → Bool) → List A → List ℕ → List ℕ
wipe p [] b = b
wipe p (c ∷ cs) b = cond (p c) zeros (take area_size b) ++ wipe p cs (drop area_size b)

unfoldable pub store_after : Table → List ℕ → ℕ → Act → List ℕ
store_after t b g (refuse n) = b
store_after t b g pass = b
store_after t b g attach = wipe (owned g) (slots_of t) b
store_after t b g (create e) = with_area b (free_at t) e.key
store_after t b g (destroy n) = with_area b (live_at t g n) zeros

abbrev pub after : World → ℕ → Act → World
after w g a = record { table = table_after w.table g a; store = store_after w.table w.store g a }
