-- Ticket K12 on requests too long to be written out: CCM's payload at its bound in both directions, and lengths in sum at the size limit.
-- Assumes nothing.
use Rattle.std.specs.Prelude.{ℕ, ◌+◌, ◌≡◌, refl, Bool, true, ◌&&◌, List, [], ◌∷◌, ◌++◌, length, take}
use Rattle.lists.specs.Sum.{sum_to}
use Rattle.model.specs.Bytes.{le, le32, le64, part, padded}
use Rattle.model.specs.Answer.{first_fail, control_outcome, control_bytes}
use Rattle.model.specs.Algorithm.{known, key_ok, result_ok, iv_ok, source_ok, decrypted_ok, written_ok, payload_ok}
use Rattle.model.specs.Session.{World, slot_of, bits_of, word_of, marks_of, occupied_by, slots_of, with_slots, new_guest, key_area, area_of, bit, offers, direction_ok, lengths_ok, accepts}
use Rattle.model.specs.View.{present, find, no_room, full}
use Rattle.model.specs.Act.{with_slot, without, with_guest, restarted, numbered, table_after, store_after, with_area, wipe}
use Rattle.model.specs.Setup.{config_of, only_bits, config_ok, shares_ok, set_up_answer, fresh_table, set_up}
use Rattle.model.specs.Control.{opcode_ok, asked, new_entry, control_checks}
use Rattle.model.specs.Data.{operation_ok, lengths, fits}
use Rattle.model.specs.Device.{Attach, checks_of, outcome, checks, act, reply, next}
use Rattle.cases.specs.Build.{offer, world, configured, hash_create, aead_create, hash_head, aead_head, asking}
use Rattle.cases.specs.Script.{Row, Script, row, long, right, from_lengths}

-- a table with this size limit, put there by hand
abbrev limited : ℕ → World
limited size =
    let w = world 8 32 in
    record { table = configured (take 48 offer ++ le 8 size) w.table; store = w.store }

-- ---- data requests without AAD, all lengths but one as the rules ask

-- session, IV, source, tag; the answer
abbrev encrypting : ℕ → ℕ → ℕ → ℕ → ℕ → Row
encrypting id iv source tag a = long (aead_head 768 id iv 0 source (source + tag) tag) (iv + source) (source + tag + 1) (48 + iv + source) a

-- session, IV, destination, tag; the answer
abbrev decrypting : ℕ → ℕ → ℕ → ℕ → ℕ → Row
decrypting id iv dest tag a = long (aead_head 769 id iv 0 (dest + tag) dest tag) (iv + dest + tag) (dest + 1) (48 + iv + dest + tag) a

-- session, source, result; the answer
abbrev hashing : ℕ → ℕ → ℕ → ℕ → Row
hashing id source result a = long (hash_head 256 id source result) source (result + 1) (32 + source) a

-- sessions: 1 CCM encrypt with tag 16, 2 CCM decrypt with tag 8, 3 GCM encrypt with tag 16, 4 SHA_256 with result 32
abbrev after : Script → Script
after s =
    row (Attach 1) 0 0
    ∷ row (asking (aead_create 2 1 16 0 16)) 56 0
    ∷ row (asking (aead_create 2 2 8 0 16)) 56 0
    ∷ row (asking (aead_create 1 1 16 0 16)) 56 0
    ∷ row (asking (hash_create 4 32)) 24 0
    ∷ s

-- ---- the tables

-- with the largest limit that set-up takes
abbrev offered : Script
offered =
    after (
    -- IV 13: 65,535 and 65,536 bytes; of a decryption the source may be longer
    encrypting 1 13 65535 16 0
    ∷ encrypting 1 13 65536 16 1
    ∷ decrypting 2 13 65535 8 0
    ∷ decrypting 2 13 65536 8 1
    -- IV 12 and 7: more; GCM has no bound of its own
    ∷ encrypting 1 12 65536 16 0
    ∷ decrypting 2 12 65536 8 0
    ∷ encrypting 1 7 65536 16 0
    ∷ encrypting 3 12 65536 16 0
    -- IV 12, tag 16: read and written are 1,048,576 bytes in sum, and 1,048,578
    ∷ encrypting 3 12 524274 16 0
    ∷ encrypting 3 12 524275 16 1
    ∷ encrypting 1 12 524274 16 0
    ∷ encrypting 1 12 524275 16 1
    ∷ []
    )

-- with a limit of 2^26: IV 12 and 16,777,215 bytes, and one more
abbrev larger : Script
larger =
    after (
    encrypting 1 12 16777215 16 0
    ∷ encrypting 1 12 16777216 16 1
    ∷ decrypting 2 12 16777215 8 0
    ∷ decrypting 2 12 16777216 8 1
    ∷ encrypting 1 11 16777216 16 0
    ∷ decrypting 2 11 16777216 8 0
    ∷ encrypting 3 12 16777216 16 0
    ∷ encrypting 1 13 65536 16 1
    ∷ decrypting 2 13 65536 8 1
    ∷ []
    )

-- with the largest number as limit: IV 11 allows every length that 32 bits hold
abbrev largest : Script
largest = after (encrypting 1 11 4294967279 16 0 ∷ encrypting 1 12 4294967279 16 1 ∷ decrypting 2 11 4294967287 8 0 ∷ encrypting 3 12 4294967279 16 0 ∷ [])

-- with the limit that set-up had before: the hash edge of then
abbrev lower : Script
lower = after (hashing 4 65504 32 0 ∷ hashing 4 65505 32 1 ∷ encrypting 1 13 65535 16 1 ∷ [])

abbrev table : (World → Script → Bool) → Bool
table holds = holds (world 8 32) offered && holds (limited 67108864) larger && holds (limited 18446744073709551615) largest && holds (limited 65536) lower

-- whatever the bytes are that stand behind the first ones
pub long_requests : (bytes : ℕ → List ℕ) → ((n : ℕ) → length (bytes n) ≡ n) → table (right bytes) ≡ true
unfolding le le32 le64 part padded first_fail control_outcome control_bytes known key_ok result_ok iv_ok source_ok decrypted_ok written_ok payload_ok slot_of bits_of word_of marks_of occupied_by slots_of with_slots new_guest key_area area_of bit offers direction_ok lengths_ok accepts present find no_room full with_slot without with_guest restarted numbered table_after store_after with_area wipe config_of only_bits config_ok shares_ok set_up_answer fresh_table set_up opcode_ok asked new_entry control_checks operation_ok lengths fits checks_of outcome checks act reply next sum_to
long_requests bytes sized = from_lengths bytes sized table refl
