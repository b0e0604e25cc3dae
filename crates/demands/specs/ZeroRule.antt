-- What the zero rule says of a slot and its key area.
use Rattle.std.specs.Prelude.{◌≡◌, false, ◌&&◌, ℕ, ◌<◌, get_or}
use Rattle.model.specs.Session.{area_size}
use Rattle.model.specs.Zero.{key_byte}
use Rattle.history.specs.Cells.{Cell}

abbrev pub Clean : Cell → Type 0
Clean c = (j : ℕ) → j < area_size → c.place.held && key_byte c.place.session j ≡ false → get_or c.key j 0 ≡ 0
