-- Paper 01, "The session table": the zero rule. [7.4]
use Rattle.std.specs.Prelude.{ℕ, ◌+◌, ◌/◌, ◌%◌, ◌<◌, ◌≡◌, Bool, false, ◌&&◌, leb, ltb, length, get_or}
use Rattle.model.specs.declared.Session.{Session}
use Rattle.model.specs.declared.Table.{Table}
use Rattle.model.specs.Session.{area_size, World, Place, place_at, key_start, key_len}
use Rattle.model.specs.View.{live}

-- byte j of a session's area is of its key
unfoldable pub key_byte : Session → ℕ → Bool
key_byte x j = leb (key_start x.service) j && ltb j (key_start x.service + key_len x)

-- byte j of a slot's area is of a live session's key
abbrev pub live_byte : Table → Place → ℕ → Bool
live_byte t c j = live t c.owner c.number c && key_byte c.session j

-- 01's term "zero rule": every store byte of no live session's key is zero [7.4]
abbrev pub ZeroRule : World → Type 0
ZeroRule w = (i : ℕ) → i < length w.store → live_byte w.table (place_at w.table (i / area_size)) (i % area_size) ≡ false → get_or w.store i 0 ≡ 0
