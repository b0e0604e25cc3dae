-- A session as a slot keeps it, and a guest's record after a grant.
use Rattle.std.specs.Prelude.{ℕ, suc, ◌-◌, ◌%◌, cond, List, leb, get_or, Option, None, Some}
use Rattle.model.specs.declared.Guest.{Guest}
use Rattle.model.specs.declared.Session.{Session}
use Rattle.model.specs.Session.{last_number, new_guest}

-- the session with each field that a slot keeps in one byte cut to it
unfoldable pub low : Session → Session
low x = record {
  service = x.service % 256;
  algo = x.algo % 256;
  direction = x.direction % 256;
  keylen = x.keylen % 256;
  result = x.result % 256;
  aad = x.aad;
}

-- the record with n as the last number given
unfoldable pub lastly : Guest → ℕ → Guest
lastly r n = record { attached = r.attached; reserve = r.reserve; cap = r.cap; last = n }

-- the next number, 0 where none is left
unfoldable pub number_after : ℕ → ℕ
number_after n = cond (leb last_number n) 0 (suc n)

-- the next number, if one is left
unfoldable pub next_number : ℕ → Option ℕ
next_number n = cond (leb last_number n) None (Some (suc n))

-- what guest g lacks of its reserve, by the guests' records and how many slots each holds
abbrev pub lacks : List Guest → List ℕ → ℕ → ℕ
lacks guests held g = (get_or guests g (new_guest 0 0)).reserve - get_or held g 0
