-- The definitions computed on concrete requests: 01's replay example byte by byte, each of its likely slips, both sides of edges that it does
-- not star, and tables filled by hand.
-- Assumes nothing.
use Rattle.std.specs.Prelude.{ℕ, suc, ◌≡◌, refl, Bool, true, false, cond, ◌&&◌, List, [], ◌∷◌, ◌++◌, map, eqb, replicate, take, set}
use Rattle.lists.specs.Sum.{sum_to}
use Rattle.model.specs.declared.Table.{Table}
use Rattle.model.specs.Bytes.{le, le32, le64, part, padded}
use Rattle.model.specs.Answer.{first_fail, control_outcome, data_outcome, control_bytes, data_bytes}
use Rattle.model.specs.Algorithm.{known, key_ok, result_ok, iv_ok, source_ok, decrypted_ok, written_ok, payload_ok}
use Rattle.model.specs.declared.Field.TheVariants.{Iv, Source, Aad}
use Rattle.model.specs.declared.Session.{Session}
use Rattle.model.specs.Session.{store_size, last_number, World, Place, free, holding, slot_of, bits_of, word_of, marks_of, occupied_by, slots_of, with_slots, new_guest, guest_at, area, zeros, key_start, key_area, area_of, key_len, key_of, bit, offers, direction_ok, lengths_ok, accepts}
use Rattle.model.specs.View.{present, find, no_room, full, holds, total}
use Rattle.model.specs.Act.{with_slot, without, with_guest, restarted, numbered, table_after, store_after, with_area, wipe}
use Rattle.model.specs.Setup.{config_of, only_bits, config_ok, shares_ok, set_up_answer, fresh_table, set_up}
use Rattle.model.specs.Control.{opcode_ok, asked, new_entry, control_checks}
use Rattle.model.specs.Data.{operation_ok, lengths, fits, part_of, status}
use Rattle.model.specs.Device.{Request, Attach, Control, Admit, Part, KeyAnswer, Key, Finish, checks_of, outcome, checks, act, reply, next}
use Rattle.cases.specs.Build.{offer, world, configured, head, cipher_create, hash_create, mac_create, aead_create, destroy_session, start, cipher_data, hash_data, aead_data, asking, ending, sending}

-- ---- facts, and how they are run

-- a fact of a table and key store
abbrev Fact : Type 0
Fact = World → Bool

-- the places of the facts that fail, counted from n
abbrev failing : ℕ → World → List Fact → List ℕ
failing n w [] = []
failing n w (f ∷ fs) = let rest = failing (suc n) w fs in cond (f w) rest (n ∷ rest)

abbrev same_bytes : List ℕ → List ℕ → Bool
same_bytes [] [] = true
same_bytes [] (y ∷ ys) = false
same_bytes (x ∷ xs) [] = false
same_bytes (x ∷ xs) (y ∷ ys) = eqb x y && same_bytes xs ys

-- guest g's request has this answer
abbrev answers : ℕ → Request → ℕ → Fact
answers g q n w = eqb (reply w g q).answer n

-- it leaves these writable bytes
abbrev writes : ℕ → Request → List ℕ → Fact
writes g q b w = same_bytes (reply w g q).writable b

-- it hands on these bytes
abbrev hands : ℕ → Request → List ℕ → Fact
hands g q b w = same_bytes (reply w g q).bytes b

-- it names this guest, session number and operation
abbrev names : ℕ → Request → ℕ → ℕ → ℕ → Fact
names g q h n op w = eqb (reply w g q).job.guest h && eqb (reply w g q).job.number n && eqb (reply w g q).job.opcode op

-- after it a fact holds
abbrev then : ℕ → Request → Fact → Fact
then g q f w = f (next w g q)

-- slot i's key area
abbrev area_is : ℕ → List ℕ → Fact
area_is i b w = same_bytes (area i w.store) b

-- a guest holds so many sessions, and all together so many
abbrev held : ℕ → ℕ → Fact
held g n w = eqb (holds w.table g) n

abbrev held_all : ℕ → Fact
held_all n w = eqb (total w.table) n

-- the table changed by hand
abbrev by : (Table → Table) → Fact → Fact
by f x w = x (record { table = f w.table; store = w.store })

-- the same with another key store
abbrev storing : List ℕ → Fact → Fact
storing b x w = x (record { table = w.table; store = b })

-- guest 0's requests, each beside its answer, on one table
abbrev each : List (Request × ℕ) → List Fact
each [] = []
each ((q, n) ∷ l) = answers 0 q n ∷ each l

-- ---- set-up

-- the configuration with the byte at i replaced
abbrev offer_with : ℕ → ℕ → List ℕ
offer_with i x = set offer i x

abbrev set_up_is : List ℕ → ℕ → ℕ → ℕ → ℕ → Fact
set_up_is config reserve cap store n w = eqb (set_up_answer config (replicate 8 reserve) (replicate 8 cap) (replicate store 0)) n

-- a configuration and its answer
abbrev configs : List (List ℕ × ℕ) → List Fact
configs [] = []
configs ((k, n) ∷ l) = set_up_is k 8 32 store_size n ∷ configs l

-- reserves and caps given one by one
abbrev shares_are : List ℕ → List ℕ → ℕ → Fact
shares_are r c n w = eqb (set_up_answer offer r c (replicate store_size 0)) n

abbrev set_ups : List Fact
set_ups =
    configs (
    (offer, 0)
    -- length
    ∷ (take 55 offer, 21)
    ∷ (offer ++ 0 ∷ [], 21)
    ∷ ([], 21)
    -- status, max_dataqueues, crypto_services
    ∷ (offer_with 0 0, 21)
    ∷ (offer_with 0 2, 21)
    ∷ (offer_with 4 0, 21)
    ∷ (offer_with 4 1, 0)
    ∷ (offer_with 4 9, 21)
    ∷ (offer_with 8 0, 0)
    ∷ (offer_with 8 31, 21)
    -- masks: ARC4, hash 0 and 7, MAC 0 and CMAC_3DES, AEAD 0 and 4, the high words
    ∷ (offer_with 12 2, 21)
    ∷ (offer_with 12 0, 0)
    ∷ (offer_with 16 1, 21)
    ∷ (offer_with 20 1, 21)
    ∷ (offer_with 20 128, 21)
    ∷ (offer_with 24 1, 21)
    ∷ (offer_with 27 2, 21)
    ∷ (offer_with 28 1, 21)
    ∷ (offer_with 32 1, 21)
    ∷ (offer_with 32 16, 21)
    -- key limits, reserved, max_size
    ∷ (offer_with 36 65, 21)
    ∷ (offer_with 40 65, 21)
    ∷ (offer_with 40 0, 0)
    ∷ (offer_with 44 1, 21)
    ∷ (offer_with 48 1, 21)
    ∷ (offer_with 52 1, 21)
    ∷ (take 48 offer ++ le 8 65537, 0)
    ∷ (take 48 offer ++ le 8 1048575, 0)
    ∷ (take 48 offer ++ le 8 18446744073709551615, 21)
    ∷ []
    )
    -- shares
    ++ set_up_is offer 16 128 store_size 0
    ∷ set_up_is offer 17 128 store_size 20
    ∷ set_up_is offer 8 8 store_size 0
    ∷ set_up_is offer 8 7 store_size 20
    ∷ set_up_is offer 8 129 store_size 20
    ∷ shares_are (121 ∷ replicate 7 1) (replicate 8 128) 0
    ∷ shares_are (122 ∷ replicate 7 1) (replicate 8 128) 20
    ∷ shares_are (replicate 7 0 ++ 9 ∷ []) (replicate 7 0 ++ 8 ∷ []) 20
    -- order: 18, 21, 20
    ∷ set_up_is [] 8 7 16383 18
    ∷ set_up_is offer 8 32 16385 18
    ∷ set_up_is offer 8 32 0 18
    ∷ set_up_is [] 8 7 store_size 21
    -- a refused one keeps the store, and an attach is granted on its table, where every request is 3
    ∷ (λ w. same_bytes (set_up [] [] [] (9 ∷ 9 ∷ [])).store (9 ∷ 9 ∷ []))
    ∷ (λ w. answers 0 (asking (hash_create 4 32)) 3 (next (set_up [] [] [] (replicate store_size 9)) 0 (Attach 1)))
    ∷ (λ w. eqb (guest_at (set_up [] (replicate 8 8) (replicate 8 32) []).table 3).cap 0)
    ∷ []

-- ---- attach, on a table with no guest attached

abbrev attaches : List Fact
attaches =
    answers 0 (Attach 1) 0
    ∷ answers 0 (Attach 0) 19
    ∷ answers 0 (Attach 4294967295) 19
    ∷ answers 7 (Attach 1) 0
    ∷ answers 8 (Attach 1) 16
    ∷ answers 255 (Attach 1) 16
    ∷ answers 8 (Attach 3) 16
    ∷ storing (replicate 16383 0) (answers 8 (Attach 3) 18)
    ∷ storing (replicate 16385 0) (answers 0 (Attach 1) 18)
    -- nothing else is granted before it
    ∷ answers 0 (asking (hash_create 4 32)) 16
    ∷ answers 0 (sending (hash_data 256 1 0 32) 33) 16
    ∷ answers 0 (KeyAnswer 1) 16
    ∷ answers 0 (Finish 0 0 (7 ∷ [])) 16
    -- 01's replay example, byte by byte
    ∷ answers 0 (Attach (le32 (1 ∷ 0 ∷ 0 ∷ 0 ∷ []) 0)) 0
    ∷ then 0 (Attach (le32 (1 ∷ 0 ∷ 0 ∷ 0 ∷ []) 0))
    (answers 0 (asking (2 ∷ 1 ∷ 0 ∷ 0 ∷ 4 ∷ 0 ∷ 0 ∷ 0 ∷ 0 ∷ 0 ∷ 0 ∷ 0 ∷ 0 ∷ 0 ∷ 0 ∷ 0 ∷ 4 ∷ 0 ∷ 0 ∷ 0 ∷ 32 ∷ 0 ∷ 0 ∷ 0 ∷ [])) 0)
    ∷ then 0 (Attach (le32 (1 ∷ 0 ∷ 0 ∷ 0 ∷ []) 0))
    (writes 0 (asking (2 ∷ 1 ∷ 0 ∷ 0 ∷ 4 ∷ 0 ∷ 0 ∷ 0 ∷ 0 ∷ 0 ∷ 0 ∷ 0 ∷ 0 ∷ 0 ∷ 0 ∷ 0 ∷ 4 ∷ 0 ∷ 0 ∷ 0 ∷ 32 ∷ 0 ∷ 0 ∷ 0 ∷ [])) (1 ∷ replicate 15 0))
    ∷ []

-- ---- control requests, of an attached guest without sessions

-- a cipher create with another op_type
abbrev chain_create : List ℕ
chain_create = head 2 3 ++ le 4 3 ++ le 4 16 ++ le 4 1 ++ replicate 36 0 ++ le 4 2 ++ le 4 0 ++ replicate 16 7

abbrev controls : List Fact
controls =
    each (
    -- cipher keys and directions
    (asking (cipher_create 2 1 24), 0)
    ∷ (asking (cipher_create 3 2 32), 0)
    ∷ (asking (cipher_create 4 1 15), 1)
    ∷ (asking (cipher_create 8 1 24), 0)
    ∷ (asking (cipher_create 8 1 16), 1)
    ∷ (asking (cipher_create 13 1 32), 0)
    ∷ (asking (cipher_create 13 2 64), 0)
    ∷ (asking (cipher_create 13 1 16), 1)
    ∷ (asking (cipher_create 5 1 16), 3)
    ∷ (asking (cipher_create 35 1 16), 3)
    ∷ (asking (cipher_create 3 3 16), 1)
    ∷ (asking (cipher_create 3 0 16), 1)
    -- hash results
    ∷ (asking (hash_create 1 16), 0)
    ∷ (asking (hash_create 1 17), 1)
    ∷ (asking (hash_create 2 20), 0)
    ∷ (asking (hash_create 3 29), 1)
    ∷ (asking (hash_create 5 48), 0)
    ∷ (asking (hash_create 6 64), 0)
    ∷ (asking (hash_create 6 0), 1)
    ∷ (asking (hash_create 7 20), 3)
    -- MAC keys and results
    ∷ (asking (mac_create 4 32 64), 0)
    ∷ (asking (mac_create 4 33 64), 1)
    ∷ (asking (mac_create 4 32 0), 1)
    ∷ (asking (mac_create 4 1 1), 0)
    ∷ (asking (mac_create 4 32 65), 1)
    ∷ (asking (mac_create 26 16 24), 0)
    ∷ (asking (mac_create 26 17 24), 1)
    ∷ (asking (mac_create 26 8 20), 1)
    ∷ (asking (mac_create 25 8 24), 3)
    -- AEAD keys, tags and directions; any AAD length
    ∷ (asking (aead_create 1 2 12 0 32), 0)
    ∷ (asking (aead_create 1 2 11 0 32), 1)
    ∷ (asking (aead_create 1 2 4 4294967295 16), 0)
    ∷ (asking (aead_create 2 1 6 9 16), 0)
    ∷ (asking (aead_create 2 1 7 9 16), 1)
    ∷ (asking (aead_create 3 1 16 0 32), 0)
    ∷ (asking (aead_create 3 1 12 0 32), 1)
    ∷ (asking (aead_create 3 1 16 0 16), 1)
    ∷ (asking (aead_create 4 1 16 0 32), 3)
    ∷ (asking (aead_create 1 3 16 0 32), 1)
    -- in order: header, opcode, writable, fixed part, op_type, algorithm, header algo, exact length
    ∷ (Control [] (replicate 2 0), 17)
    ∷ (Control [] [], 17)
    ∷ (asking (take 15 (hash_create 4 32)), 1)
    ∷ (asking (head 257 4), 3)
    ∷ (asking (head 1026 4), 3)
    ∷ (Control (head 258 4) (0 ∷ []), 1)
    ∷ (asking (head 259 0), 1)
    ∷ (asking (head 258 4), 1)
    ∷ (asking chain_create, 3)
    ∷ (asking (set chain_create 4 9), 3)
    ∷ (asking (head 258 5 ++ le 4 4 ++ le 4 32), 1)
    ∷ (asking (head 258 9 ++ le 4 9 ++ le 4 33), 3)
    ∷ (asking (hash_create 4 32 ++ 0 ∷ []), 1)
    -- flag and reserved are ignored
    ∷ (asking (le 4 258 ++ le 4 4 ++ le 4 77 ++ le 4 99 ++ le 4 4 ++ le 4 32), 0)
    -- destroy: exact length
    ∷ (Control (destroy_session 259 1 ++ 0 ∷ []) (0 ∷ []), 1)
    ∷ (Control (take 23 (destroy_session 259 1)) (0 ∷ []), 1)
    ∷ []
    )
    -- guests and stores
    ++ answers 8 (asking (hash_create 4 32)) 16
    ∷ answers 255 (asking (hash_create 4 32)) 16
    ∷ answers 1 (asking (hash_create 4 32)) 16
    ∷ storing [] (answers 8 (Control [] []) 18)
    ∷ storing (replicate 16385 0) (answers 0 (asking (hash_create 4 32)) 18)
    ∷ storing [] (answers 8 (KeyAnswer 1) 18)
    ∷ storing [] (answers 0 (Finish 0 0 (7 ∷ [])) 0)
    -- writable bytes: a refused create, one answered 17, a destroy, one with 16 bytes
    ∷ writes 0 (Control (hash_create 4 33) (replicate 16 9)) (replicate 8 0 ++ 1 ∷ replicate 7 0)
    ∷ writes 0 (Control (hash_create 7 20) (replicate 16 9)) (replicate 8 0 ++ 3 ∷ replicate 7 0)
    ∷ writes 0 (Control (hash_create 4 32) (replicate 3 9)) (replicate 3 9)
    ∷ writes 0 (Control (hash_create 4 32) (9 ∷ [])) (1 ∷ [])
    ∷ writes 0 (Control (destroy_session 259 1) (9 ∷ [])) (1 ∷ [])
    ∷ writes 0 (Control (destroy_session 259 1) (replicate 16 9)) (replicate 8 0 ++ 1 ∷ replicate 7 0)
    ∷ writes 1 (Control (hash_create 4 32) (replicate 16 9)) (replicate 16 9)
    -- session numbers run on after a destroy, and from 1 after an attach
    ∷ then 0 (asking (hash_create 4 32)) (then 0 (ending 259 1) (writes 0 (asking (hash_create 4 32)) (2 ∷ replicate 15 0)))
    ∷ then 0 (asking (hash_create 4 32)) (then 0 (Attach 1) (writes 0 (asking (hash_create 4 32)) (1 ∷ replicate 15 0)))
    ∷ []

-- ---- likely slips, of the same guest

abbrev long_key : Request
long_key = asking (cipher_create 13 1 64)

abbrev slips : List Fact
slips =
    -- IV 16 and source 4,294,967,295 are not 15 in sum
    then 0 (asking (cipher_create 4 1 16))
    (answers 0 (Admit (start 0 1 1 ++ le 4 16 ++ le 4 4294967295 ++ le 4 15 ++ replicate 28 0 ++ le 4 1 ++ le 4 0 ++ replicate 15 0) (replicate 16 0)) 1)
    -- session_id 2^32 + 1 is not session 1
    ∷ then 0 (asking (hash_create 4 32)) (answers 0 (sending (hash_data 256 1 10 32) 33) 0)
    ∷ then 0 (asking (hash_create 4 32)) (answers 0 (sending (hash_data 256 4294967297 10 32) 33) 4)
    ∷ then 0 (asking (hash_create 4 32)) (answers 0 (ending 259 4294967297) 1)
    -- a bad destroy is 1: no such session, another service, session 0
    ∷ then 0 (asking (hash_create 4 32)) (answers 0 (ending 259 2) 1)
    ∷ then 0 (asking (hash_create 4 32)) (answers 0 (ending 3 1) 1)
    ∷ then 0 (asking (hash_create 4 32)) (answers 0 (ending 259 0) 1)
    ∷ then 0 (asking (hash_create 4 32)) (answers 0 (ending 259 1) 0)
    -- a shorter key is followed by zeros, and a destroyed one is gone; an attach is the reset
    ∷ then 0 long_key (area_is 0 (replicate 64 7 ++ replicate 64 0))
    ∷ then 0 long_key (then 0 (ending 3 1) (area_is 0 zeros))
    ∷ then 0 long_key (then 0 (ending 3 1) (then 0 (asking (cipher_create 3 1 16)) (area_is 0 (replicate 16 7 ++ replicate 112 0))))
    ∷ then 0 long_key (then 0 (Attach 1) (area_is 0 zeros))
    ∷ then 0 long_key (then 0 long_key (then 0 (Attach 1) (held 0 0)))
    ∷ then 0 long_key (then 0 (Attach 1) (answers 0 (KeyAnswer 1) 4))
    -- a create over a dirty area writes all 128 bytes
    ∷ storing (replicate store_size 9) (then 0 (asking (mac_create 2 20 20)) (area_is 0 (replicate 64 0 ++ replicate 20 7 ++ replicate 44 0)))
    -- reserves of guests that are not attached count
    ∷ by (λ t. with_guest t 5 (new_guest 128 128)) (answers 0 long_key 0)
    ∷ by (λ t. with_guest (with_guest t 5 (new_guest 128 128)) 0 (record { attached = true; reserve = 0; cap = 128; last = 0 })) (answers 0 long_key 5)
    ∷ []

-- ---- data requests, their parts, keys and finish

-- sessions: 1 CTR encrypt, 2 CMAC with result 8, 3 CCM decrypt with tag 8 and AAD 3, 4 SHA1 with result 20, 5 XTS decrypt, 6 3DES_CBC encrypt, 7 ECB encrypt
abbrev creates : List Request
creates =
    map asking (cipher_create 4 1 16 ∷ mac_create 26 8 16 ∷ aead_create 2 2 8 3 16 ∷ hash_create 2 20 ∷ cipher_create 13 2 64 ∷ cipher_create 8 1 24 ∷ cipher_create 2 1 16 ∷ [])

abbrev ran : World → List Request → World
ran w [] = w
ran w (q ∷ qs) = ran (next w 0 q) qs

-- IV 7, source 10, AAD 3, destination 2, tag 8
abbrev ccm : List ℕ
ccm = start 769 3 1 ++ le 4 7 ++ le 4 3 ++ le 4 10 ++ le 4 2 ++ le 4 8 ++ le 4 0 ++ replicate 7 1 ++ replicate 10 2 ++ replicate 3 3

abbrev requests : List Fact
requests =
    each (
    -- IV, source, destination and result by algorithm
    (sending (cipher_data 0 1 16 5 5) 6, 0)
    ∷ (sending (cipher_data 0 1 12 5 5) 6, 1)
    ∷ (sending (cipher_data 0 1 16 0 0) 1, 0)
    ∷ (sending (cipher_data 0 1 16 5 6) 7, 1)
    ∷ (sending (hash_data 512 2 100 8) 9, 0)
    ∷ (sending (hash_data 512 2 100 9) 10, 1)
    ∷ (sending (hash_data 256 4 0 20) 21, 0)
    ∷ (sending (hash_data 256 4 0 19) 20, 1)
    ∷ (sending (aead_data 769 3 13 3 10 2 8) 3, 0)
    ∷ (sending (aead_data 769 3 6 3 10 2 8) 3, 1)
    ∷ (sending (aead_data 769 3 14 3 10 2 8) 3, 1)
    ∷ (sending (aead_data 769 3 7 4 10 2 8) 3, 1)
    ∷ (sending (aead_data 769 3 7 3 10 3 7) 4, 1)
    ∷ (sending (cipher_data 1 5 16 16 16) 17, 0)
    ∷ (sending (cipher_data 1 5 16 15 15) 16, 1)
    ∷ (sending (cipher_data 0 6 8 24 24) 25, 0)
    ∷ (sending (cipher_data 0 6 8 20 20) 21, 1)
    ∷ (sending (cipher_data 0 7 0 32 32) 33, 0)
    ∷ (sending (cipher_data 0 7 16 32 32) 33, 1)
    ∷ (sending (cipher_data 0 7 0 8 8) 9, 1)
    -- exact buffers, on either side
    ∷ (sending ccm 3, 0)
    ∷ (sending ccm 2, 1)
    ∷ (sending ccm 4, 1)
    ∷ (sending (ccm ++ 0 ∷ []) 3, 1)
    ∷ (sending (take 67 ccm) 3, 1)
    -- K4, tag 8: source equal to the tag, one byte less, none; the destination a byte off, equal to the source, and source plus tag
    ∷ (sending (aead_data 769 3 7 3 8 0 8) 1, 0)
    ∷ (sending (aead_data 769 3 7 3 7 0 8) 1, 1)
    ∷ (sending (aead_data 769 3 7 3 0 0 8) 1, 1)
    ∷ (sending (aead_data 769 3 7 3 10 1 8) 2, 1)
    ∷ (sending (aead_data 769 3 7 3 10 3 8) 4, 1)
    ∷ (sending (aead_data 769 3 7 3 10 10 8) 11, 1)
    ∷ (sending (aead_data 769 3 7 3 10 18 8) 19, 1)
    -- in order: writable, header, opcode, flag 0 and 2, session, service, direction, fixed part, op_type
    ∷ (Admit [] [], 17)
    ∷ (sending (take 23 ccm) 3, 1)
    ∷ (sending (start 2 1 0) 11, 3)
    ∷ (sending (start 1024 1 0) 11, 3)
    ∷ (sending (start 257 4 1) 11, 3)
    ∷ (sending (start 0 9 0) 11, 3)
    ∷ (sending (start 0 9 2) 11, 1)
    ∷ (sending (start 0 9 1) 11, 4)
    ∷ (sending (start 512 1 1) 11, 4)
    ∷ (sending (start 1 1 1) 11, 4)
    ∷ (sending (start 768 3 1) 11, 4)
    ∷ (sending (start 0 1 1) 11, 1)
    ∷ (sending (start 0 1 1 ++ replicate 48 0) 11, 3)
    ∷ (sending (set (cipher_data 0 1 16 5 5) 64 2) 6, 3)
    -- the header's algo and padding are ignored
    ∷ (sending (set (set ccm 4 77) 20 88) 3, 0)
    -- a destroy of a live session has 24 readable bytes
    ∷ (ending 259 4, 0)
    ∷ (Control (destroy_session 259 4 ++ 0 ∷ []) (0 ∷ []), 1)
    ∷ (Control (destroy_session 259 4) (replicate 16 0), 1)
    -- key fetch and finish
    ∷ (KeyAnswer 0, 4)
    ∷ (KeyAnswer 1, 0)
    ∷ (KeyAnswer 4, 0)
    ∷ (KeyAnswer 8, 4)
    ∷ (KeyAnswer 4294967297, 4)
    ∷ (Finish 769 0 (7 ∷ 7 ∷ []), 0)
    ∷ (Finish 769 1 (7 ∷ 7 ∷ []), 1)
    ∷ (Finish 769 2 (7 ∷ 7 ∷ []), 2)
    ∷ (Finish 769 3 (7 ∷ 7 ∷ []), 1)
    ∷ (Finish 768 2 (7 ∷ 7 ∷ []), 1)
    ∷ (Finish 4294967295 0 (7 ∷ []), 0)
    ∷ (Finish 0 0 [], 17)
    ∷ []
    )
    -- what is named, written and handed on
    ++ names 0 (sending ccm 3) 0 3 769
    ∷ names 0 (sending ccm 2) 0 0 0
    ∷ writes 0 (Admit ccm (replicate 3 9)) (replicate 3 9)
    ∷ writes 0 (Admit ccm (replicate 2 9)) (9 ∷ 1 ∷ [])
    ∷ writes 0 (Admit (aead_data 769 3 7 3 8 0 8) (9 ∷ [])) (9 ∷ [])
    ∷ writes 0 (Admit (aead_data 769 3 7 3 7 0 8) (9 ∷ [])) (1 ∷ [])
    ∷ writes 0 (Admit (start 0 9 1) (replicate 2 9)) (9 ∷ 4 ∷ [])
    ∷ writes 8 (Admit ccm (replicate 3 9)) (replicate 3 9)
    ∷ writes 0 (Finish 768 2 (7 ∷ 7 ∷ [])) (7 ∷ 1 ∷ [])
    ∷ writes 0 (Finish 769 2 (7 ∷ 7 ∷ [])) (7 ∷ 2 ∷ [])
    ∷ writes 1 (Finish 769 2 (7 ∷ 7 ∷ [])) (7 ∷ 7 ∷ [])
    ∷ hands 0 (Part Iv ccm (replicate 3 9)) (replicate 7 1)
    ∷ hands 0 (Part Source ccm (replicate 3 9)) (replicate 10 2)
    ∷ hands 0 (Part Source (aead_data 769 3 7 3 8 0 8) (9 ∷ [])) (replicate 8 5)
    ∷ hands 0 (Part Source (aead_data 769 3 7 3 7 0 8) (9 ∷ [])) []
    ∷ hands 0 (Part Aad ccm (replicate 3 9)) (replicate 3 3)
    ∷ hands 0 (Part Aad ccm (replicate 2 9)) []
    ∷ hands 0 (Part Iv (hash_data 256 4 9 20) (replicate 21 9)) []
    ∷ hands 0 (Part Source (hash_data 256 4 9 20) (replicate 21 9)) (replicate 9 5)
    ∷ hands 0 (Key 2) (replicate 16 7)
    ∷ hands 0 (Key 4) []
    ∷ hands 0 (Key 5) (replicate 64 7)
    ∷ hands 0 (Key 8) []
    ∷ storing [] (hands 0 (Key 5) [])
    ∷ area_is 1 (replicate 64 0 ++ replicate 16 7 ++ replicate 48 0)
    ∷ area_is 4 (replicate 64 7 ++ replicate 64 0)
    -- another guest finds none of them, and an attach of it changes nothing
    ∷ then 1 (Attach 1) (answers 1 (KeyAnswer 1) 4)
    ∷ then 1 (Attach 1) (answers 1 (ending 259 4) 1)
    ∷ then 1 (Attach 1) (answers 1 (sending ccm 3) 4)
    ∷ then 1 (Attach 1) (answers 0 (sending ccm 3) 0)
    ∷ answers 8 (sending ccm 3) 16
    ∷ answers 255 (sending ccm 3) 16
    ∷ answers 8 (KeyAnswer 1) 16
    ∷ answers 9 (Finish 0 0 (7 ∷ [])) 16
    ∷ []

-- ---- tables filled by hand, with the sessions above

-- slot 9 holds this
abbrev with9 : Place → Fact → Fact
with9 c = by (λ t. with_slot t 9 c)

abbrev a_session : ℕ → ℕ → ℕ → ℕ → ℕ → ℕ → Session
a_session s a d k r n = record { service = s; algo = a; direction = d; keylen = k; result = r; aad = n }

-- an HMAC_SHA1 session
abbrev hmac : Session
hmac = a_session 2 2 0 20 20 0

-- slot 9 holds session 3 of guest 0 with these fields; the slot that held it is free, with its fields left in it
abbrev with3 : Session → Fact → Fact
with3 x = by (λ t. with_slot (with_slot t 9 (holding 0 3 x)) 2 (record { held = false; owner = 0; number = 3; session = x }))

-- guest 0 with these fields
abbrev guest0 : ℕ → ℕ → ℕ → Fact → Fact
guest0 reserve cap last = by (λ t. with_guest t 0 (record { attached = true; reserve = reserve; cap = cap; last = last }))

-- every slot held by guest g
abbrev filled : ℕ → Fact → Fact
filled g = by (λ t. with_slots t (replicate 128 (holding g 9 hmac)))

-- another configuration
abbrev offering : List ℕ → Fact → Fact
offering k = by (configured k)

abbrev by_hand : List Fact
by_hand =
    -- owner, number
    with9 (holding 0 0 hmac) (answers 0 (KeyAnswer 0) 4)
    ∷ with9 (holding 0 8 hmac) (answers 0 (KeyAnswer 8) 4)
    ∷ guest0 8 32 8 (with9 (holding 0 8 hmac) (answers 0 (KeyAnswer 8) 0))
    ∷ with9 (holding 1 1 hmac) (answers 1 (KeyAnswer 1) 16)
    ∷ with9 (holding 8 1 hmac) (answers 8 (KeyAnswer 1) 16)
    ∷ with9 (holding 255 1 hmac) (answers 255 (KeyAnswer 1) 16)
    -- of two that match the lower slot counts, and it is the one destroyed
    ∷ with9 (holding 0 7 hmac) (hands 0 (Key 7) (replicate 16 7))
    ∷ with9 (holding 0 7 hmac) (answers 0 (ending 515 7) 1)
    ∷ with9 (holding 0 7 hmac) (then 0 (ending 3 7) (answers 0 (ending 515 7) 0))
    -- all held slots count, matching or not
    ∷ with9 (holding 0 99 hmac) (held 0 8)
    ∷ with9 (holding 255 1 hmac) (held_all 8)
    ∷ filled 255 (answers 0 long_key 5)
    ∷ filled 255 (guest0 200 200 7 (answers 0 long_key 5))
    ∷ filled 0 (then 0 (Attach 1) (held_all 0))
    -- cap and reserve: below, at and above
    ∷ guest0 8 8 7 (answers 0 long_key 0)
    ∷ guest0 7 7 7 (answers 0 long_key 5)
    ∷ guest0 3 3 7 (answers 0 long_key 5)
    -- numbers left: one, and none
    ∷ guest0 8 32 18446744073709551614 (answers 0 long_key 0)
    ∷ guest0 8 32 18446744073709551614 (writes 0 long_key (replicate 8 255 ++ replicate 8 0))
    ∷ guest0 8 32 18446744073709551614 (then 0 long_key (answers 0 long_key 1))
    ∷ guest0 8 32 last_number (answers 0 long_key 1)
    ∷ guest0 8 32 last_number (writes 0 long_key (replicate 8 0 ++ 1 ∷ replicate 7 0))
    ∷ guest0 0 0 last_number (answers 0 long_key 1)
    -- the session with the last number is live, and its attach starts again from 1
    ∷ guest0 8 32 18446744073709551614 (then 0 long_key (hands 0 (Key last_number) (replicate 64 7)))
    ∷ guest0 8 32 18446744073709551614 (then 0 long_key (answers 0 (sending (cipher_data 0 last_number 16 16 16) 17) 0))
    ∷ guest0 8 32 18446744073709551614 (then 0 long_key (then 0 (ending 3 last_number) (answers 0 (KeyAnswer last_number) 4)))
    ∷ guest0 8 32 last_number (then 0 (Attach 1) (writes 0 long_key (1 ∷ replicate 15 0)))
    -- numbers go on above 32 bits
    ∷ guest0 8 32 4294967295 (writes 0 long_key (replicate 4 0 ++ 1 ∷ replicate 11 0))
    ∷ guest0 8 32 4294967295 (then 0 long_key (answers 0 (KeyAnswer 4294967296) 0))
    -- fields that step 4 looks at: algorithm, direction, key, result, tag
    ∷ with3 (a_session 2 2 0 20 20 0) (answers 0 (KeyAnswer 3) 0)
    ∷ with3 (a_session 2 7 0 20 20 0) (answers 0 (KeyAnswer 3) 4)
    ∷ with3 (a_session 2 2 0 65 20 0) (answers 0 (KeyAnswer 3) 4)
    ∷ with3 (a_session 2 2 0 20 21 0) (answers 0 (KeyAnswer 3) 4)
    ∷ with3 (a_session 0 3 3 16 0 0) (answers 0 (KeyAnswer 3) 4)
    ∷ with3 (a_session 3 1 0 16 16 0) (answers 0 (KeyAnswer 3) 4)
    ∷ with3 (a_session 3 1 1 16 5 0) (answers 0 (KeyAnswer 3) 4)
    ∷ with3 (a_session 4 1 1 16 16 0) (answers 0 (KeyAnswer 3) 4)
    -- fields that it does not look at: a hash's direction, key and AAD length, a cipher's result and AAD, a MAC's direction and AAD
    ∷ with3 (a_session 1 4 7 5 32 9) (answers 0 (KeyAnswer 3) 0)
    ∷ with3 (a_session 1 4 7 200 32 9) (hands 0 (Key 3) [])
    ∷ with3 (a_session 1 4 7 5 32 9) (answers 0 (sending (hash_data 256 3 10 32) 33) 0)
    ∷ with3 (a_session 1 4 7 5 32 9) (answers 0 (sending (hash_data 256 3 10 31) 32) 1)
    ∷ with3 (a_session 1 4 7 5 32 9) (answers 0 (ending 259 3) 0)
    ∷ with3 (a_session 0 4 1 16 99 9) (answers 0 (sending (cipher_data 0 3 16 5 5) 6) 0)
    ∷ with3 (a_session 0 4 2 16 99 9) (answers 0 (sending (cipher_data 0 3 16 5 5) 6) 4)
    ∷ with3 (a_session 2 2 9 20 20 9) (answers 0 (sending (hash_data 512 3 10 20) 21) 0)
    -- GCM and CHACHA20_POLY1305: IV 12 and its neighbours
    ∷ with3 (a_session 3 1 1 16 16 0) (answers 0 (sending (aead_data 768 3 12 0 5 21 16) 22) 0)
    ∷ with3 (a_session 3 1 1 16 16 0) (answers 0 (sending (aead_data 768 3 11 0 5 21 16) 22) 1)
    ∷ with3 (a_session 3 1 1 16 16 0) (answers 0 (sending (aead_data 768 3 13 0 5 21 16) 22) 1)
    ∷ with3 (a_session 3 3 2 32 16 2) (answers 0 (sending (aead_data 769 3 12 2 21 5 16) 6) 0)
    ∷ with3 (a_session 3 3 2 32 16 2) (answers 0 (sending (aead_data 769 3 13 2 21 5 16) 6) 1)
    -- K4 for both, tags 4 and 16: source equal to the tag, and one byte less
    ∷ with3 (a_session 3 1 2 16 4 0) (answers 0 (sending (aead_data 769 3 12 0 4 0 4) 1) 0)
    ∷ with3 (a_session 3 1 2 16 4 0) (answers 0 (sending (aead_data 769 3 12 0 3 0 4) 1) 1)
    ∷ with3 (a_session 3 3 2 32 16 2) (answers 0 (sending (aead_data 769 3 12 2 16 0 16) 1) 0)
    ∷ with3 (a_session 3 3 2 32 16 2) (answers 0 (sending (aead_data 769 3 12 2 15 0 16) 1) 1)
    -- encryption stays: an empty source writes its tag, and no destination is shorter than the source
    ∷ with3 (a_session 3 1 1 16 16 0) (answers 0 (sending (aead_data 768 3 12 0 0 16 16) 17) 0)
    ∷ with3 (a_session 3 1 1 16 16 0) (answers 0 (sending (aead_data 768 3 12 0 16 0 16) 1) 1)
    ∷ with3 (a_session 3 1 1 16 16 0) (answers 0 (sending (aead_data 768 3 12 0 21 5 16) 6) 1)
    -- hash not offered: its sessions match nothing, and the others do
    ∷ offering (offer_with 8 13) (answers 0 (KeyAnswer 4) 4)
    ∷ offering (offer_with 8 13) (answers 0 (KeyAnswer 3) 0)
    ∷ offering (offer_with 8 13) (answers 0 (sending (hash_data 256 4 0 20) 21) 3)
    ∷ offering (offer_with 8 13) (answers 0 (asking (hash_create 4 32)) 3)
    ∷ offering (offer_with 8 13) (answers 0 (ending 259 4) 3)
    -- a mask without AES_ECB, and one with a bit of an algorithm that the rules do not name
    ∷ offering (offer_with 12 8) (answers 0 (asking (cipher_create 2 1 16)) 3)
    ∷ offering (offer_with 12 8) (answers 0 (asking (cipher_create 3 1 16)) 0)
    ∷ offering (offer_with 12 8) (answers 0 (KeyAnswer 7) 4)
    ∷ offering (offer_with 12 255) (answers 0 (asking (cipher_create 5 1 16)) 3)
    -- key limits: cipher and AEAD keys have one, MAC keys the other
    ∷ offering (offer_with 36 16) (answers 0 (asking (cipher_create 3 1 16)) 0)
    ∷ offering (offer_with 36 16) (answers 0 (asking (cipher_create 3 1 24)) 1)
    ∷ offering (offer_with 36 16) (answers 0 (asking (aead_create 1 1 16 0 24)) 1)
    ∷ offering (offer_with 36 16) (answers 0 (asking (mac_create 26 8 24)) 0)
    ∷ offering (offer_with 36 16) (answers 0 (KeyAnswer 5) 4)
    ∷ offering (offer_with 40 16) (answers 0 (asking (mac_create 2 20 16)) 0)
    ∷ offering (offer_with 40 16) (answers 0 (asking (mac_create 2 20 17)) 1)
    ∷ offering (offer_with 40 16) (answers 0 (asking (cipher_create 3 1 24)) 0)
    -- a size limit of 30: what is read and written in sum
    ∷ offering (take 48 offer ++ le 8 30) (answers 0 (sending (hash_data 256 4 10 20) 21) 0)
    ∷ offering (take 48 offer ++ le 8 30) (answers 0 (sending (hash_data 256 4 11 20) 21) 1)
    ∷ offering (take 48 offer ++ le 8 22) (answers 0 (sending ccm 3) 0)
    ∷ offering (take 48 offer ++ le 8 21) (answers 0 (sending ccm 3) 1)
    ∷ []

-- ---- the words that mark the held slots (K2), on the same sessions

-- the two words put there by hand, whatever the slots' fields hold
abbrev marking : ℕ → ℕ → Fact → Fact
marking low high = by (λ t. record { config = t.config; occupied = record { low = low; high = high }; slots = t.slots; guests = t.guests })

abbrev occupies : ℕ → ℕ → Fact
occupies low high w = eqb w.table.occupied.low low && eqb w.table.occupied.high high

-- a word with every bit set, and with every bit but the first or the last
abbrev every : ℕ
every = 18446744073709551615

abbrev but_first : ℕ
but_first = 18446744073709551614

abbrev but_last : ℕ
but_last = 9223372036854775807

-- a create of guest 0, with room for all, takes slot i
abbrev takes : ℕ → ℕ → ℕ → Fact
takes low high i = guest0 255 255 7 (marking low high (then 0 long_key (area_is i (replicate 64 7 ++ replicate 64 0))))

abbrev marks : List Fact
marks =
    -- seven sessions are seven bits; a create sets the next, a destroy clears its own, a refusal leaves all, an attach clears its guest's
    occupies 127 0
    ∷ then 0 long_key (occupies 255 0)
    ∷ then 0 (ending 515 2) (occupies 125 0)
    ∷ then 0 (ending 515 2) (then 0 long_key (occupies 127 0))
    ∷ then 0 (ending 515 2) (then 0 long_key (area_is 1 (replicate 64 7 ++ replicate 64 0)))
    ∷ then 0 (ending 3 2) (occupies 127 0)
    ∷ then 0 (Attach 1) (occupies 0 0)
    -- clear slots that carry left-over fields name nobody and match no number
    ∷ marking 0 0 (held_all 0)
    ∷ marking 0 0 (held 0 0)
    ∷ marking 0 0 (answers 0 (KeyAnswer 1) 4)
    ∷ marking 123 0 (held 0 6)
    ∷ marking 123 0 (answers 0 (KeyAnswer 3) 4)
    ∷ marking 123 0 (answers 0 (sending ccm 3) 4)
    ∷ marking 123 0 (answers 0 (ending 771 3) 1)
    ∷ marking 4 0 (answers 0 (sending ccm 3) 0)
    ∷ marking 4 0 (held 0 1)
    -- an attach leaves their areas, and a create takes the lowest of them with all that was left
    ∷ marking 123 0 (then 0 (Attach 1) (area_is 1 zeros))
    ∷ marking 123 0 (then 0 (Attach 1) (area_is 2 (replicate 16 7 ++ replicate 112 0)))
    ∷ marking 123 0 (then 0 long_key (occupies 127 0))
    ∷ marking 123 0 (then 0 long_key (area_is 2 (replicate 64 7 ++ replicate 64 0)))
    ∷ marking 123 0 (then 0 long_key (answers 0 (KeyAnswer 3) 4))
    -- a marked slot with cleared fields is guest 0's, and matches no number
    ∷ marking 127 1 (held 0 8)
    ∷ marking 127 1 (answers 0 (KeyAnswer 0) 4)
    ∷ marking 127 1 (then 0 (Attach 1) (occupies 0 0))
    -- the first clear bit, at both ends of both words
    ∷ takes but_first every 0
    ∷ takes but_last every 63
    ∷ takes every 0 64
    ∷ takes every but_first 64
    ∷ takes every 1 65
    ∷ takes every but_last 127
    ∷ guest0 255 255 7 (marking every but_last (then 0 long_key (occupies every every)))
    ∷ guest0 255 255 7 (marking every every (answers 0 long_key 5))
    -- both words count, for the guest and for all
    ∷ marking every every (held_all 128)
    ∷ marking 0 every (held_all 64)
    ∷ marking 0 every (held 0 64)
    ∷ marking 0 2147483647 (answers 0 long_key 0)
    ∷ marking 0 4294967295 (answers 0 long_key 5)
    ∷ []

-- ---- that the bounds of demand 3 are reached

-- guest 1 holds every slot but the last
abbrev one_free : Fact → Fact
one_free = by (λ t. with_slots t (replicate 127 (holding 1 9 hmac) ++ free ∷ []))

abbrev crowd : List Fact
crowd =
    -- the last slot is taken, and then no create is granted
    one_free (held_all 127)
    ∷ one_free (then 0 long_key (held_all 128))
    ∷ one_free (then 0 long_key (area_is 127 (replicate 64 7 ++ replicate 64 0)))
    ∷ one_free (then 0 long_key (answers 0 long_key 5))
    -- the lowest free slot is taken
    ∷ then 0 long_key (then 0 long_key (then 0 (ending 3 1) (then 0 (asking (mac_create 2 20 20)) (area_is 0 (replicate 64 0 ++ replicate 20 7 ++ replicate 44 0)))))
    -- a guest can hold its cap
    ∷ guest0 1 2 0 (then 0 long_key (answers 0 long_key 0))
    ∷ guest0 1 2 0 (then 0 long_key (then 0 long_key (held 0 2)))
    ∷ guest0 1 2 0 (then 0 long_key (then 0 long_key (answers 0 long_key 5)))
    ∷ []

-- guest 1 has a reserve of 127 and the others none, so one session is left for them
abbrev contended : World
contended = set_up offer (0 ∷ 127 ∷ replicate 6 0) (replicate 8 128) (replicate store_size 0)

abbrev contest : List Fact
contest =
    -- a guest at its reserve, which is 0, is granted alone what it is refused beside another
    then 0 (Attach 1) (answers 0 long_key 0)
    ∷ then 0 (Attach 1) (then 2 (Attach 1) (then 2 long_key (answers 0 long_key 5)))
    -- and the reserve is kept for its guest
    ∷ then 1 (Attach 1) (then 2 (Attach 1) (then 2 long_key (answers 1 long_key 0)))
    ∷ []

-- ---- one statement: no fact fails

-- attached, and with the sessions
abbrev attached : World
attached = next (world 8 32) 0 (Attach 1)

pub facts :
    failing 0 (world 8 32) (set_ups ++ attaches)
    ++ failing 100 attached (controls ++ slips)
    ++ failing 200 (ran attached creates) requests
    ++ failing 300 (ran attached creates) by_hand
    ++ failing 400 (ran attached creates) marks
    ++ failing 500 attached crowd
    ++ failing 600 contended contest
    ≡ []
unfolding le le32 le64 part padded first_fail control_outcome data_outcome control_bytes data_bytes known key_ok result_ok iv_ok source_ok decrypted_ok written_ok payload_ok slot_of bits_of word_of marks_of occupied_by slots_of with_slots new_guest key_start key_area area_of key_len key_of bit offers direction_ok lengths_ok accepts present find no_room full with_slot without with_guest restarted numbered table_after store_after with_area wipe config_of only_bits config_ok shares_ok set_up_answer fresh_table set_up opcode_ok asked new_entry control_checks operation_ok lengths fits part_of status checks_of outcome checks act reply next sum_to
facts = refl
