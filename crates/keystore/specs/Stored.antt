-- What the functions of the key store leave where the store has not its 16,384 bytes or the slot is above 127: all as it was.
use Rattle.std.specs.Prelude.{ℕ, ◌+◌, ◌*◌, cond, ◌&&◌, List, [], ltb, length}
use Rattle.model.specs.declared.Session.{Session}
use Rattle.model.specs.Bytes.{part}
use Rattle.model.specs.Session.{slot_count, area_size, key_start, key_len}
use Rattle.model.specs.View.{sized}
use Rattle.model.specs.Act.{with_area}

-- the store with the area of slot i replaced by a
unfoldable pub stored : List ℕ → ℕ → List ℕ → List ℕ
stored b i a = cond (sized (length b) && ltb i slot_count) (with_area b i a) b

-- c in place of the store b
unfoldable pub cleared : List ℕ → List ℕ → List ℕ
cleared b c = cond (sized (length b)) c b

-- the key of session x in slot i
unfoldable pub key_at : List ℕ → ℕ → Session → List ℕ
key_at b i x = cond (ltb i slot_count) (part b (area_size * i + key_start x.service) (key_len x)) []
