-- What an act leaves of a table: its configuration, its guests and its slots.
-- Assumes nothing.
use Rattle.std.specs.Prelude.{List, map, ℕ, set}
use Rattle.std.proofs.Common.{ap, ◌∙◌}
use Rattle.model.specs.declared.Config.{Config}
use Rattle.model.specs.declared.Guest.{Guest}
use Rattle.model.specs.declared.Table.{Table}
use Rattle.model.specs.Session.{Place, Entry, free, slots_of, guest_at}
use Rattle.model.specs.View.{free_at, live_at}
use Rattle.model.specs.Act.{attach, create, destroy, with_slot, released, without, with_guest, restarted, numbered, table_after}
use Rattle.laws.specs.Slots.{slots_with, slots_without, slots_guest, rest_with, rest_without, rest_guest, Parts, new_place}

recorded : (t : Table) (k : Config) (r : List Guest) (l : List Place) (g : ℕ) (q : Guest) → Parts t k r l → Parts (with_guest t g q) k (set r g q) l
recorded t k r l g q p = ((rest_guest t g q).0 ∙ p.0, (rest_guest t g q).1 ∙ ap (λ (m : List Guest). set m g q) p.1, slots_guest t g q ∙ p.2)

placed : (t : Table) (i : ℕ) (c : Place) → Parts (with_slot t i c) t.config t.guests (set (slots_of t) i c)
placed t i c = ((rest_with t i c).0, (rest_with t i c).1, slots_with t i c)

pub after_attach : (t : Table) (g : ℕ)
    → Parts (table_after t g attach) t.config (set t.guests g (restarted (guest_at t g))) (map (released g) (slots_of t))
unfolding table_after
after_attach t g = recorded (without t g) _ _ _ g (restarted (guest_at t g)) ((rest_without t g).0, (rest_without t g).1, slots_without t g)

pub after_create : (t : Table) (g : ℕ) (e : Entry)
    → Parts (table_after t g (create e)) t.config (set t.guests g (numbered (guest_at t g))) (set (slots_of t) (free_at t) (new_place t g e))
unfolding table_after
after_create t g e = recorded (with_slot t (free_at t) (new_place t g e)) _ _ _ g (numbered (guest_at t g)) (placed t (free_at t) (new_place t g e))

pub after_destroy : (t : Table) (g n : ℕ) → Parts (table_after t g (destroy n)) t.config t.guests (set (slots_of t) (live_at t g n) free)
unfolding table_after
after_destroy t g n = placed t (live_at t g n) free
