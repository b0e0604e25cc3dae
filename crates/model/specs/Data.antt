-- Paper 01, "Data requests", with finish, and key fetch. Header 24 bytes: opcode 0, algo 4, session_id 8, flag 16, padding 20; then the
-- fixed part; then IV, source and AAD. The header's algo and padding are ignored. [7, 10, 11]
use Rattle.std.specs.Prelude.{ℕ, ◌+◌, ◌%◌, Bool, false, cond, not, ◌&&◌, ◌||◌, List, [], ◌∷◌, ◌++◌, eqb, leb, length}
use Rattle.std.proofs.Math.Option.{Option, none, some}
use Rattle.model.specs.declared.Config.{Config}
use Rattle.model.specs.declared.Field.{Field}
use Rattle.model.specs.declared.Field.TheVariants.{Iv, Source, Aad}
use Rattle.model.specs.declared.Lengths.{Lengths}
use Rattle.model.specs.declared.Session.{Session}
use Rattle.model.specs.Bytes.{le32, le64, part}
use Rattle.model.specs.Answer.{err, badmsg, notsupp, invsess, bad_guest, no_outcome, bad_store, Check}
use Rattle.model.specs.Lens.{or_in}
use Rattle.model.specs.Algorithm.{cipher, hash, mac, aead, iv_ok, source_ok, written_ok, payload_ok}
use Rattle.model.specs.Session.{Entry, key_of, bit, directed}
use Rattle.model.specs.View.{is_live, session_in, sized}
use Rattle.model.specs.Control.{opcode, service_of, service, of_service}

-- ---- the header

abbrev pub number : List ℕ → ℕ
number r = le64 r 8

abbrev pub flag : List ℕ → ℕ
flag r = le32 r 16

-- the operation is known and its service offered; opcode is service·256, and 1 more for decryption [3.3, 4.3]
unfoldable pub operation_ok : Config → ℕ → Bool
operation_ok k op = or_in false op (0 ∷ 1 ∷ 256 ∷ 512 ∷ 768 ∷ 769 ∷ []) && bit k.services (service_of op)

-- a cipher's or AEAD's direction: 1 encrypt, 2 decrypt [3.3]
abbrev pub direction_of : ℕ → ℕ
direction_of op = op % 256 + 1

-- ---- the fixed part, by service: virtio_crypto_sym_data_flf, _hash_, _mac_ and _aead_ [10.3 to 10.5]

-- "Fixed parts: cipher 48, hash 8, MAC 8, AEAD 24" [10.3 to 10.5]
abbrev pub data_part : ℕ → ℕ
data_part s = cond (eqb s cipher) 48 (cond (eqb s hash || eqb s mac) 8 24)

unfoldable pub lengths : List ℕ → Lengths
lengths r =
    cond (eqb (service r) cipher)
    (record { iv = le32 r 24; source = le32 r 28; aad = 0; written = le32 r 32; result = 0 })
    (cond (eqb (service r) aead)
    (record { iv = le32 r 24; source = le32 r 32; aad = le32 r 28; written = le32 r 36; result = le32 r 40 })
    (record { iv = 0; source = le32 r 24; aad = 0; written = le32 r 28; result = le32 r 28 }))

-- a cipher's op_type (offset 40 of the fixed part) is 1
abbrev pub plain_data : List ℕ → Bool
plain_data r = not (eqb (service r) cipher) || eqb (le32 r 64) 1

-- where the variable parts start
abbrev pub start_of : ℕ → ℕ
start_of op = 24 + data_part (service_of op)

abbrev pub start : List ℕ → ℕ
start r = start_of (opcode r)

-- the lengths against the rules; "AAD, tag and result lengths of a data request equal the session's" [9.11, 9.12]
unfoldable pub fits : Session → Lengths → Bool
fits x n =
    iv_ok x.service x.algo n.iv
    && source_ok x.service x.algo n.source
    && written_ok x.service x.direction n
    && payload_ok x.service x.algo x.direction n
    && (not (eqb x.service aead) || eqb n.aad x.aad)
    && (eqb x.service cipher || eqb n.result x.result)

-- ---- the checks in order [10.9]

-- the session is live, of this service and, where the service has one, of this direction
abbrev pub suits : ℕ → Bool → Session → Bool
suits op alive x = of_service (service_of op) alive x && (not (directed (service_of op)) || eqb x.direction (direction_of op))

-- those that need no session, by whether the guest is present, the opcode, the flag and the numbers of readable and writable bytes
abbrev pub operation_checks : Config → Bool → ℕ → ℕ → ℕ → ℕ → List Check
operation_checks k here op flag len room =
    -- "16; 17" [1, 2]
    (here, bad_guest)
    ∷ (leb 1 room, no_outcome)
    -- "readable under 24: 1" [3]
    ∷ (leb 24 len, err)
    -- "opcode unknown or service not offered: 3" [4]
    ∷ (operation_ok k op, notsupp)
    -- "flag 0: 3; flag not 1: 1" [5, 6]
    ∷ (not (eqb flag 0), notsupp)
    ∷ (eqb flag 1, err)
    ∷ []

-- those on the session x that the request names and on the lengths n
abbrev pub job_checks : Config → Bool → Session → ℕ → Bool → Lengths → ℕ → ℕ → List Check
job_checks k alive x op plain n len room =
    -- "session not live for this guest, or other service or direction: 4" [7]
    (suits op alive x, invsess)
    -- "readable under header plus fixed part: 1" [8]
    ∷ (leb (start_of op) len, err)
    -- "cipher op_type (offset 40) not 1: 3" [9]
    ∷ (plain, notsupp)
    -- "variable lengths, read and written, above max_size in sum: 1" [10]
    ∷ (leb (n.iv + n.source + n.aad + n.written) k.size, err)
    -- "readable or writable (result plus 1) not exact: 1" [11]
    ∷ (eqb len (start_of op + n.iv + n.source + n.aad) && eqb room (n.written + 1), err)
    -- "lengths against the rules: 1" [12]
    ∷ (fits x n, err)
    ∷ []

-- by whether the guest is present, the live session that the request names, the readable bytes and the number of writable bytes
abbrev pub data_checks : Config → Bool → Option Entry → List ℕ → ℕ → List Check
data_checks k here e r room =
    operation_checks k here (opcode r) (flag r) (length r) room
    ++ job_checks k (is_live e) (session_in e) (opcode r) (plain_data r) (lengths r) (length r) room

-- ---- the parts of an accepted request: "IV and source; source; source; IV, source and AAD" [10.6, 10.11]

unfoldable pub part_of : Field → List ℕ → List ℕ
part_of Iv r = part r (start r) (lengths r).iv
part_of Source r = part r (start r + (lengths r).iv) (lengths r).source
part_of Aad r = part r (start r + (lengths r).iv + (lengths r).source) (lengths r).aad

-- ---- key fetch

-- "18, 16, 4 if nothing live matches, else 0" [7.5]
abbrev pub key_checks : ℕ → Bool → Bool → List Check
key_checks store here alive = (sized store, bad_store) ∷ (here, bad_guest) ∷ (alive, invsess) ∷ []

-- a part of the key store; a hash's is empty [7.6]
abbrev pub key_bytes : Option Entry → List ℕ
key_bytes none = []
key_bytes (some e) = key_of e

-- ---- finish

-- "order 16, 17" [11.1]
abbrev pub finish_checks : Bool → ℕ → List Check
finish_checks here room = (here, bad_guest) ∷ (leb 1 room, no_outcome) ∷ []

-- "Verdict 0 or 1, or 2 for AEAD decryption, is written as the last byte; any other writes 1" [11.2]
unfoldable pub status : ℕ → ℕ → ℕ
status op verdict = cond (leb verdict err || eqb verdict badmsg && eqb op 769) verdict err
