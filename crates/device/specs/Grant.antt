-- What a create is granted.
use Rattle.std.specs.Prelude.{ℕ, suc, ◌≡◌, ◌<◌}
use Rattle.model.specs.declared.Table.{Table}
use Rattle.model.specs.Session.{guest_at}
use Rattle.model.specs.View.{free_at}
use Rattle.device.specs.declared.Grant.{Grant}

-- the lowest free slot of the table, which there is, and the guest's next number
pub record IsNext (t : Table) (g : ℕ) (x : Grant) : Type 0 where
  pub slot : x.at ≡ free_at t
  pub inside : x.at < 128
  pub number : x.number ≡ suc (guest_at t g).last
