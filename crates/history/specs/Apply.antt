-- The room check on an act, and what an act does to the state of the theorems and to the view of its guest.
-- Assumes nothing.
use Rattle.std.specs.Prelude.{Bool, cond, map, ℕ, suc, ◌-◌, eqb, set}
use Rattle.std.proofs.Math.Option.{none, some}
use Rattle.lists.specs.Seek.{swap}
use Rattle.model.specs.Answer.{nospc}
use Rattle.model.specs.Session.{holding, Entry}
use Rattle.model.specs.View.{View}
use Rattle.model.specs.Act.{Act, refuse, pass, attach, create, destroy, restarted, numbered}
use Rattle.history.specs.Cells.{Cell, State, no_cell, owns, matches, is_free, guest_of}

-- the last check of a create: f says that there is no room
abbrev pub gate : Bool → Act → Act
gate f (refuse n) = refuse n
gate f pass = pass
gate f attach = attach
gate f (create e) = cond f (refuse nospc) (create e)
gate f (destroy n) = destroy n

-- an act that it can refuse
abbrev pub Creates : Act → Type 0
Creates (refuse n) = ⊥
Creates pass = ⊥
Creates attach = ⊥
Creates (create e) = Unit {0}
Creates (destroy n) = ⊥

abbrev pub release : ℕ → Cell → Cell
release g c = cond (owns g c) no_cell c

abbrev pub cell_of : ℕ → ℕ → Entry → Cell
cell_of g n e = record { place = holding g n e.session; key = e.key }

abbrev pub new_cell : State → ℕ → Entry → Cell
new_cell s g e = cell_of g (suc (guest_of s g).last) e

-- the state after an act of guest g
unfoldable pub apply : State → ℕ → Act → State
apply s g (refuse n) = s
apply s g pass = s
apply s g attach = record { setting = s.setting; cells = map (release g) s.cells; guests = set s.guests g (restarted (guest_of s g)) }
apply s g (create e) = record { setting = s.setting; cells = swap is_free (new_cell s g e) s.cells; guests = set s.guests g (numbered (guest_of s g)) }
apply s g (destroy n) = record { setting = s.setting; cells = swap (matches s.setting (guest_of s g) g n) no_cell s.cells; guests = s.guests }

-- the guest's own view after its act
unfoldable pub view_after : View → Act → View
view_after v (refuse n) = v
view_after v pass = v
view_after v attach = record { guest = restarted v.guest; holds = 0; find = λ n. none }
view_after v (create e) = record { guest = numbered v.guest; holds = suc v.holds; find = λ n. cond (eqb n (suc v.guest.last)) (some e) (v.find n) }
view_after v (destroy n) = record { guest = v.guest; holds = v.holds - 1; find = λ m. cond (eqb m n) none (v.find m) }
