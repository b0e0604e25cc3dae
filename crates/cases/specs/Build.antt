-- Requests for the computed cases, built field by field as document 001 lays them out, and the tables that they meet.
-- Assumes nothing.
use Rattle.std.specs.Prelude.{ℕ, ◌+◌, List, ◌++◌, replicate}
use Rattle.model.specs.declared.Table.{Table}
use Rattle.model.specs.Bytes.{le}
use Rattle.model.specs.Session.{store_size, World}
use Rattle.model.specs.Setup.{size_limit, config_of, set_up}
use Rattle.model.specs.Device.{Request, Control, Admit}

-- a configuration that offers everything, with the largest limits
abbrev pub offer : List ℕ
offer =
    le 4 1 ++ le 4 8 ++ le 4 15 ++ le 4 8476 ++ le 4 0 ++ le 4 126 ++ le 4 67108990 ++ le 4 0 ++ le 4 14 ++ le 4 64 ++ le 4 64 ++ le 4 0 ++ le 8 size_limit

-- set up with it, every guest with this reserve and cap
abbrev pub world : ℕ → ℕ → World
world reserve cap = set_up offer (replicate 8 reserve) (replicate 8 cap) (replicate store_size 0)

-- a table with another configuration, put there by hand
abbrev pub configured : List ℕ → Table → Table
configured k t = record { config = config_of k; occupied = t.occupied; slots = t.slots; guests = t.guests }

-- ---- control requests

-- opcode, algo, flag, reserved
abbrev pub head : ℕ → ℕ → List ℕ
head op algo = le 4 op ++ le 4 algo ++ le 4 0 ++ le 4 0

-- algo, key_len, op, unused, op_type, padding; then the key
abbrev pub cipher_create : ℕ → ℕ → ℕ → List ℕ
cipher_create algo dir key = head 2 algo ++ le 4 algo ++ le 4 key ++ le 4 dir ++ replicate 36 0 ++ le 4 1 ++ le 4 0 ++ replicate key 7

-- algo, hash_result_len
abbrev pub hash_create : ℕ → ℕ → List ℕ
hash_create algo result = head 258 algo ++ le 4 algo ++ le 4 result

-- algo, hash_result_len, auth_key_len, padding; then the key
abbrev pub mac_create : ℕ → ℕ → ℕ → List ℕ
mac_create algo result key = head 514 algo ++ le 4 algo ++ le 4 result ++ le 4 key ++ le 4 0 ++ replicate key 7

-- algo, key_len, tag_len, aad_len, op, padding; then the key
abbrev pub aead_create : ℕ → ℕ → ℕ → ℕ → ℕ → List ℕ
aead_create algo dir tag aad key = head 770 algo ++ le 4 algo ++ le 4 key ++ le 4 tag ++ le 4 aad ++ le 4 dir ++ le 4 0 ++ replicate key 7

abbrev pub destroy_session : ℕ → ℕ → List ℕ
destroy_session op id = head op 0 ++ le 8 id

-- ---- data requests

-- opcode, algo, session_id, flag, padding
abbrev pub start : ℕ → ℕ → ℕ → List ℕ
start op id flag = le 4 op ++ le 4 0 ++ le 8 id ++ le 4 flag ++ le 4 0

-- iv_len, src_data_len, dst_data_len, unused, op_type, padding; then IV and source
abbrev pub cipher_data : ℕ → ℕ → ℕ → ℕ → ℕ → List ℕ
cipher_data op id iv source dest = start op id 1 ++ le 4 iv ++ le 4 source ++ le 4 dest ++ replicate 28 0 ++ le 4 1 ++ le 4 0 ++ replicate (iv + source) 5

-- src_data_len, hash_result_len; then the source
abbrev pub hash_head : ℕ → ℕ → ℕ → ℕ → List ℕ
hash_head op id source result = start op id 1 ++ le 4 source ++ le 4 result

abbrev pub hash_data : ℕ → ℕ → ℕ → ℕ → List ℕ
hash_data op id source result = hash_head op id source result ++ replicate source 5

-- iv_len, aad_len, src_data_len, dst_data_len, tag_len, reserved; then IV, source and AAD
abbrev pub aead_head : ℕ → ℕ → ℕ → ℕ → ℕ → ℕ → ℕ → List ℕ
aead_head op id iv aad source dest tag = start op id 1 ++ le 4 iv ++ le 4 aad ++ le 4 source ++ le 4 dest ++ le 4 tag ++ le 4 0

abbrev pub aead_data : ℕ → ℕ → ℕ → ℕ → ℕ → ℕ → ℕ → List ℕ
aead_data op id iv aad source dest tag = aead_head op id iv aad source dest tag ++ replicate (iv + source + aad) 5

-- ---- with writable bytes

-- a create with 16 of them
abbrev pub asking : List ℕ → Request
asking r = Control r (replicate 16 0)

-- a destroy with one
abbrev pub ending : ℕ → ℕ → Request
ending op id = Control (destroy_session op id) (replicate 1 0)

-- a data request with w
abbrev pub sending : List ℕ → ℕ → Request
sending r w = Admit r (replicate w 0)
