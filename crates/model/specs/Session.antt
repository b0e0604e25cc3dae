-- Paper 01, "The session table": what a slot, a guest and a key area hold, and which sessions can be. [6, 7]
use Rattle.std.specs.Prelude.{ℕ, zero, suc, ◌+◌, ◌*◌, ◌/◌, ◌%◌, ◌^◌, Bool, true, false, cond, not, ◌&&◌, ◌||◌, List, [], ◌∷◌, ◌++◌, map, eqb, leb, get_or, replicate, take, drop}
use Rattle.lists.specs.Seek.{one, zip}
use Rattle.model.specs.declared.Config.{Config}
use Rattle.model.specs.declared.Guest.{Guest}
use Rattle.model.specs.declared.Occupied.{Occupied}
use Rattle.model.specs.declared.Session.{Session}
use Rattle.model.specs.declared.Slot.{Slot}
use Rattle.model.specs.declared.Table.{Table}
use Rattle.model.specs.Bytes.{part, padded}
use Rattle.model.specs.Algorithm.{cipher, hash, mac, aead, encrypt, decrypt, known, key_ok, result_ok}

-- "A table holds 128 slots and eight guest records." "Slot s owns key bytes 128·s to 128·s+127" [6.1, 7.1]
abbrev pub slot_count : ℕ
slot_count = 128

abbrev pub area_size : ℕ
area_size = 128

abbrev pub store_size : ℕ
store_size = 16384

-- "Session numbers run per guest from 1" to 18,446,744,073,709,551,615, by K12 [6.6]
abbrev pub last_number : ℕ
last_number = 18446744073709551615

-- ---- slots and guests

-- the table and the key store
pub record World : Type 0 where
  pub table : Table
  pub store : List ℕ

-- "A slot is free, or holds owner, session number, service, algorithm, direction and lengths" [6.3]
pub record Place : Type 0 where
  pub held : Bool
  pub owner : ℕ
  pub number : ℕ
  pub session : Session

abbrev pub no_session : Session
no_session = record { service = 0; algo = 0; direction = 0; keylen = 0; result = 0; aad = 0 }

abbrev pub free : Place
free = record { held = false; owner = 0; number = 0; session = no_session }

abbrev pub holding : ℕ → ℕ → Session → Place
holding g n x = record { held = true; owner = g; number = n; session = x }

-- a place as the table keeps it but for the mark, and back
unfoldable pub slot_of : Place → Slot
slot_of c = record {
  number = c.number;
  aad = c.session.aad;
  owner = c.owner;
  service = c.session.service;
  algo = c.session.algo;
  direction = c.session.direction;
  keylen = c.session.keylen;
  result = c.session.result;
}

abbrev pub session_of : Slot → Session
session_of c = record { service = c.service; algo = c.algo; direction = c.direction; keylen = c.keylen; result = c.result; aad = c.aad }

abbrev pub place_of : Bool → Slot → Place
place_of held c = record { held = held; owner = c.owner; number = c.number; session = session_of c }

-- the lowest k bits of a word, lowest first, and back
unfoldable pub bits_of : ℕ → ℕ → List Bool
bits_of zero w = []
bits_of (suc k) w = eqb (w % 2) 1 ∷ bits_of k (w / 2)

unfoldable pub word_of : List Bool → ℕ
word_of [] = 0
word_of (b ∷ l) = one b + 2 * word_of l

-- K2, "the occupied slots as bits": the marks of the 128 slots, the first 64 in `low` and the others in `high`, and back [6.2]
unfoldable pub marks_of : Occupied → List Bool
marks_of o = bits_of 64 o.low ++ bits_of 64 o.high

unfoldable pub occupied_by : List Bool → Occupied
occupied_by l = record { low = word_of (take 64 l); high = word_of (drop 64 l) }

-- the mark of slot i
abbrev pub marked : Occupied → ℕ → Bool
marked o i = get_or (marks_of o) i false

-- the slots of a table, which every definition that asks about a slot asks, and the table with others.
-- K2, "A clear slot names no owner, whatever its fields hold": to be held is to be marked [6.4]
unfoldable pub slots_of : Table → List Place
slots_of t = zip place_of (marks_of t.occupied) t.slots

unfoldable pub with_slots : Table → List Place → Table
with_slots t l = record { config = t.config; occupied = occupied_by (map (λ c. c.held) l); slots = map slot_of l; guests = t.guests }

-- slot i
abbrev pub place_at : Table → ℕ → Place
place_at t i = get_or (slots_of t) i free

-- a guest that never attached
unfoldable pub new_guest : ℕ → ℕ → Guest
new_guest reserve cap = record { attached = false; reserve = reserve; cap = cap; last = 0 }

-- the record of guest g; one above 7 has none: it never attached, and has no share [6.5]
abbrev pub guest_at : Table → ℕ → Guest
guest_at t g = get_or t.guests g (new_guest 0 0)

-- ---- key areas

-- the key area of slot i
abbrev pub area : ℕ → List ℕ → List ℕ
area i b = take area_size (drop (area_size * i) b)

abbrev pub zeros : List ℕ
zeros = replicate area_size 0

-- an area with one key from byte 0 and one from byte 64, all else zero
unfoldable pub key_area : List ℕ → List ℕ → List ℕ
key_area front back = padded 64 front ++ padded 64 back

-- the area of a new session: "a cipher or AEAD key starts at 0, a MAC key at 64, all else is zero" [7.2]
unfoldable pub area_of : ℕ → List ℕ → List ℕ
area_of service key = cond (eqb service mac) (key_area [] key) (key_area key [])

unfoldable pub key_start : ℕ → ℕ
key_start service = cond (eqb service mac) 64 0

-- how long a session's key is; a hash has none, whatever its slot says [7.6]
unfoldable pub key_len : Session → ℕ
key_len x = cond (eqb x.service hash) 0 x.keylen

-- a session with the bytes of its key area
pub record Entry : Type 0 where
  pub session : Session
  pub key : List ℕ

-- the key of a session, in its area
unfoldable pub key_of : Entry → List ℕ
key_of e = part e.key (key_start e.session.service) (key_len e.session)

-- ---- which sessions can be

-- bit n of a mask
unfoldable pub bit : ℕ → ℕ → Bool
bit mask n = eqb (mask / 2 ^ n % 2) 1

-- every algorithm of the rules is below 32, so its bit stands in the low word
abbrev pub mask_of : Config → ℕ → ℕ
mask_of k service = cond (eqb service cipher) k.ciphers (cond (eqb service hash) k.hashes (cond (eqb service mac) k.macs k.aeads))

-- 01's term "offered", of an algorithm: it stands in the rules and its bit and its service's bit are set [4.3]
unfoldable pub offers : Config → ℕ → ℕ → Bool
offers k service algo = known service algo && bit k.services service && bit (mask_of k service) algo

-- cipher and AEAD have a direction [3.4]
abbrev pub directed : ℕ → Bool
directed service = eqb service cipher || eqb service aead

unfoldable pub direction_ok : Session → Bool
direction_ok x = not (directed x.service) || eqb x.direction encrypt || eqb x.direction decrypt

-- "Cipher and AEAD keys obey max_cipher_key_len too, MAC keys max_auth_key_len" [9.5]
abbrev pub key_limit : Config → ℕ → ℕ
key_limit k service = cond (eqb service mac) k.authkey k.cipherkey

unfoldable pub lengths_ok : Config → Session → Bool
lengths_ok k x =
    key_ok x.service x.algo x.keylen
    && (eqb x.service hash || leb x.keylen (key_limit k x.service))
    && result_ok x.service x.algo x.result

-- the session passes step 4 of a create under this configuration [6.8]
unfoldable pub accepts : Config → Session → Bool
accepts k x = offers k x.service x.algo && direction_ok x && lengths_ok k x
