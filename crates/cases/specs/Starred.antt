-- Paper 01, "Both sides of each edge": the starred cases, one table, proved by one statement. [15.3, 16.1]
-- Assumes nothing.
use Rattle.std.specs.Prelude.{ℕ, ◌≡◌, refl, Bool, true, ◌&&◌, List, [], ◌∷◌, ◌++◌, length, replicate, take}
use Rattle.lists.specs.Sum.{sum_to}
use Rattle.model.specs.Bytes.{le, le32, le64, part, padded}
use Rattle.model.specs.Answer.{first_fail, control_outcome, data_outcome, control_bytes, data_bytes}
use Rattle.model.specs.Algorithm.{known, key_ok, result_ok, iv_ok, source_ok, decrypted_ok, written_ok, payload_ok}
use Rattle.model.specs.Session.{World, slot_of, bits_of, word_of, marks_of, occupied_by, slots_of, with_slots, new_guest, key_start, key_area, area_of, key_len, key_of, bit, offers, direction_ok, lengths_ok, accepts}
use Rattle.model.specs.View.{present, find, no_room, full}
use Rattle.model.specs.Act.{with_slot, without, with_guest, restarted, numbered, table_after, store_after, with_area, wipe}
use Rattle.model.specs.Setup.{config_of, only_bits, config_ok, shares_ok, set_up_answer, fresh_table, set_up}
use Rattle.model.specs.Control.{opcode_ok, asked, new_entry, control_checks}
use Rattle.model.specs.Data.{operation_ok, lengths, fits, part_of, status}
use Rattle.model.specs.Device.{Attach, Control, checks_of, outcome, checks, act, reply, next}
use Rattle.cases.specs.Build.{world, cipher_create, hash_create, aead_create, cipher_data, hash_head, aead_data, asking, ending, sending}
use Rattle.cases.specs.Script.{Script, row, long, right, from_lengths}

-- ---- the table

-- sessions: 1 AES_CBC, 2 SHA_256 with result 32, 3 GCM with tag 16 and AAD 20
abbrev pub edges : Script
edges =
    -- feature word 3
    row (Attach 3) 0 19
    ∷ row (Attach 1) 0 0
    -- AES_CBC create, key 16: readable 88 and 87; key 20
    ∷ row (asking (cipher_create 3 1 16)) 88 0
    ∷ row (asking (take 87 (cipher_create 3 1 16))) 87 1
    ∷ row (asking (cipher_create 3 1 20)) 92 1
    -- create with 1 writable byte, and with 2
    ∷ row (Control (cipher_create 3 1 16) (replicate 1 0)) 88 1
    ∷ row (Control (cipher_create 3 1 16) (replicate 2 0)) 88 17
    -- CBC data, IV 16: source 32 and 31
    ∷ row (sending (cipher_data 0 1 16 32 32) 33) 120 0
    ∷ row (sending (cipher_data 0 1 16 31 31) 32) 119 1
    -- hash, result 32: source 1,048,544 and 1,048,545
    ∷ row (asking (hash_create 4 32)) 24 0
    ∷ long (hash_head 256 2 1048544 32) 1048544 33 1048576 0
    ∷ long (hash_head 256 2 1048545 32) 1048545 33 1048577 1
    -- GCM encrypt, IV 12, AAD 20, source 100, tag 16
    ∷ row (asking (aead_create 1 1 16 20 16)) 56 0
    ∷ row (sending (aead_data 768 3 12 20 100 116 16) 117) 180 0
    -- unknown session
    ∷ row (ending 3 9) 24 1
    ∷ row (sending (cipher_data 0 9 16 32 32) 33) 120 4
    ∷ []

-- a guest alone: n creates are granted and the next is NOSPC
abbrev pub burst : ℕ → Script
burst n = row (Attach 1) 0 0 ∷ replicate n (row (asking (hash_create 4 32)) 24 0) ++ row (asking (hash_create 4 32)) 24 5 ∷ []

-- reserves 8 and caps 128: 72 are granted; reserves 16: 16 are
abbrev table : (World → Script → Bool) → Bool
table holds = holds (world 8 32) edges && holds (world 8 128) (burst 72) && holds (world 16 128) (burst 16)

-- whatever the bytes are that stand behind the first ones of a long request
pub starred : (bytes : ℕ → List ℕ) → ((n : ℕ) → length (bytes n) ≡ n) → table (right bytes) ≡ true
unfolding le le32 le64 part padded first_fail control_outcome data_outcome control_bytes data_bytes known key_ok result_ok iv_ok source_ok decrypted_ok written_ok payload_ok slot_of bits_of word_of marks_of occupied_by slots_of with_slots new_guest key_start key_area area_of key_len key_of bit offers direction_ok lengths_ok accepts present find no_room full with_slot without with_guest restarted numbered table_after store_after with_area wipe config_of only_bits config_ok shares_ok set_up_answer fresh_table set_up opcode_ok asked new_entry control_checks operation_ok lengths fits part_of status checks_of outcome checks act reply next sum_to
starred bytes sized = from_lengths bytes sized table refl
