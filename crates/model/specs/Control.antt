-- Paper 01, "Control requests". Header 16 bytes: opcode 0, algo 4, flag 8, reserved 12; then the fixed part; then the key.
-- Flag, reserved and padding are ignored: nothing here reads them. [8.2, 8.8]
use Rattle.std.specs.Prelude.{ℕ, ◌+◌, ◌/◌, ◌%◌, Bool, false, cond, not, ◌&&◌, ◌||◌, List, [], ◌∷◌, ◌++◌, eqb, leb, ltb, length}
use Rattle.model.specs.declared.Config.{Config}
use Rattle.model.specs.declared.Session.{Session}
use Rattle.model.specs.Bytes.{le32, le64, part}
use Rattle.model.specs.Answer.{err, notsupp, nospc, bad_guest, no_outcome, bad_store, Check}
use Rattle.model.specs.Lens.{or_in}
use Rattle.model.specs.Algorithm.{cipher, hash, mac, aead}
use Rattle.model.specs.Session.{last_number, area_of, Entry, bit, offers, direction_ok, lengths_ok}
use Rattle.model.specs.View.{Setting, View, is_live, session_in, sized, present}
use Rattle.model.specs.Act.{Act, create, destroy}

-- ---- the header

abbrev pub opcode : List ℕ → ℕ
opcode r = le32 r 0

-- "Opcode is service·256 + 2 (create) or 3 (destroy)" [3.2]
abbrev pub service_of : ℕ → ℕ
service_of op = op / 256

abbrev pub creating : ℕ → Bool
creating op = eqb (op % 256) 2

abbrev pub service : List ℕ → ℕ
service r = service_of (opcode r)

abbrev pub is_create : List ℕ → Bool
is_create r = creating (opcode r)

-- the opcode is known, and its service offered: its bit is set [3.2, 4.3]
unfoldable pub opcode_ok : Config → ℕ → Bool
opcode_ok k op = or_in false op (2 ∷ 3 ∷ 258 ∷ 259 ∷ 514 ∷ 515 ∷ 770 ∷ 771 ∷ []) && bit k.services (service_of op)

-- ---- a create's fixed part, by service: virtio_crypto_sym_create_session_flf, _hash_, _mac_ and _aead_ [8.3 to 8.6]

-- "Fixed parts: cipher 56, hash 8, MAC 16, AEAD 24" [8.3 to 8.6]
abbrev pub create_part : ℕ → ℕ
create_part s = cond (eqb s cipher) 56 (cond (eqb s hash) 8 (cond (eqb s mac) 16 24))

-- the session that it asks for, 0 where the service has no such field [6.3, 8.3 to 8.6]
unfoldable pub asked : List ℕ → Session
asked r =
    cond (eqb (service r) cipher)
    (record { service = cipher; algo = le32 r 16; direction = le32 r 24; keylen = le32 r 20; result = 0; aad = 0 })
    (cond (eqb (service r) hash)
    (record { service = hash; algo = le32 r 16; direction = 0; keylen = 0; result = le32 r 20; aad = 0 })
    (cond (eqb (service r) mac)
    (record { service = mac; algo = le32 r 16; direction = 0; keylen = le32 r 24; result = le32 r 20; aad = 0 })
    (record { service = aead; algo = le32 r 16; direction = le32 r 32; keylen = le32 r 20; result = le32 r 24; aad = le32 r 28 })))

-- a cipher's op_type (offset 48 of the fixed part) is 1
abbrev pub plain_create : List ℕ → Bool
plain_create r = not (eqb (service r) cipher) || eqb (le32 r 64) 1

-- the new session with its key area [7.2]
unfoldable pub new_entry : List ℕ → Entry
new_entry r = record { session = asked r; key = area_of (asked r).service (part r (16 + create_part (asked r).service) (asked r).keylen) }

-- ---- the checks in order, by the numbers of readable and writable bytes and the fields

-- step 1: "Store length 18; guest 16; writable length 17" [8.9, 1 to 3]
abbrev pub place_checks : ℕ → Bool → ℕ → List Check
place_checks store here room = (sized store, bad_store) ∷ (here, bad_guest) ∷ (eqb room 16 || eqb room 1, no_outcome) ∷ []

-- steps 2 and 3 [8.9, 4 to 7]
abbrev pub head_checks : Config → ℕ → ℕ → ℕ → List Check
head_checks k op len room =
    -- "Fewer than 16 readable bytes: 1" [4]
    (leb 16 len, err)
    -- "Opcode unknown or service not offered: 3" [5]
    ∷ (opcode_ok k op, notsupp)
    -- "Writable not 16 for create, 1 for destroy: 1" [6]
    ∷ (eqb room (cond (creating op) 16 1), err)
    -- "Fewer than 16 plus the fixed part: 1" [7]
    ∷ (leb (16 + cond (creating op) (create_part (service_of op)) 8) len, err)
    ∷ []

-- step 4, up to the session number: of the session x, where the header's algo is `head` [8.10, 8 to 13]
abbrev pub session_checks : Config → Bool → ℕ → Session → ℕ → List Check
session_checks k plain head x len =
    -- "cipher op_type (offset 48 of the fixed part) not 1: 3" [8]
    (plain, notsupp)
    -- "The fixed part's algorithm not offered: 3" [9]
    ∷ (offers k x.service x.algo, notsupp)
    -- "Header algo differs from the fixed part's: 1" [10]
    ∷ (eqb head x.algo, err)
    -- "Direction not 1 (encrypt) or 2 (decrypt), for cipher and AEAD: 1" [11]
    ∷ (direction_ok x, err)
    -- "A length against the rules: 1" [12]
    ∷ (lengths_ok k x, err)
    -- "Readable not exactly header, fixed part and key: 1" [13]
    ∷ (eqb len (16 + create_part x.service + x.keylen), err)
    ∷ []

-- 01's term "well-formed", of a create: it passes these, every check before the session number check [8.14]
abbrev pub form_checks : Setting → ℕ → View → List ℕ → ℕ → List Check
form_checks k g v r room =
    place_checks k.store (present g v.guest) room
    ++ head_checks k.config (opcode r) (length r) room
    ++ session_checks k.config (plain_create r) (le32 r 4) (asked r) (length r)

-- 01's term "numbers left": the last one given is not the last of all [6.6, 14.7]
abbrev pub numbers_left : View → Bool
numbers_left v = ltb v.guest.last last_number

-- a create's: "No session number left: 1. NOSPC: 5." f says that it is NOSPC [8.10, 14 and 15]
abbrev pub create_checks : Setting → ℕ → View → Bool → List ℕ → ℕ → List Check
create_checks k g v f r room = form_checks k g v r room ++ (numbers_left v, err) ∷ (not f, nospc) ∷ []

-- the session is live, and of service s
abbrev pub of_service : ℕ → Bool → Session → Bool
of_service s alive x = alive && eqb x.service s

-- step 5: "readable not 24: 1. Session number not live for this guest, or of another service: 1" [8.12]
abbrev pub end_checks : Bool → Session → ℕ → ℕ → List Check
end_checks alive x op len = (eqb len 24, err) ∷ (of_service (service_of op) alive x, err) ∷ []

-- a destroy's
abbrev pub destroy_checks : Setting → ℕ → View → List ℕ → ℕ → List Check
destroy_checks k g v r room =
    place_checks k.store (present g v.guest) room
    ++ head_checks k.config (opcode r) (length r) room
    ++ end_checks (is_live (v.find (le64 r 16))) (session_in (v.find (le64 r 16))) (opcode r) (length r)

unfoldable pub control_checks : Setting → ℕ → View → Bool → List ℕ → ℕ → List Check
control_checks k g v f r room = cond (is_create r) (create_checks k g v f r room) (destroy_checks k g v r room)

-- what a control request asks for
abbrev pub control_act : List ℕ → Act
control_act r = cond (is_create r) (create (new_entry r)) (destroy (le64 r 16))
