-- Paper 01, "Set-up and attach". [4, 5]
use Rattle.std.specs.Prelude.{ℕ, zero, suc, ◌+◌, ◌^◌, Bool, true, cond, ◌&&◌, List, [], ◌∷◌, map, eqb, leb, ltb, length, get_or, replicate}
use Rattle.std.specs.Int.Bits.{bit_and}
use Rattle.lists.specs.Sum.{sum_to}
use Rattle.model.specs.declared.Config.{Config}
use Rattle.model.specs.declared.Table.{Table}
use Rattle.model.specs.Bytes.{le32, le64}
use Rattle.model.specs.Answer.{bad_guest, bad_store, bad_feature, bad_shares, bad_config, granted, Check, first_fail}
use Rattle.model.specs.Algorithm.{cipher, hash, mac, aead, ciphers, hashes, macs, aeads}
use Rattle.model.specs.Session.{slot_count, store_size, World, slot_of, free, new_guest}
use Rattle.model.specs.View.{sized}

-- ---- the configuration: twelve 32-bit fields in document 001's order, then max_size (64 bits) [4.1]

-- of max_size, by K12: "max_size may now be up to 1,048,576" [4.2]
abbrev pub size_limit : ℕ
size_limit = 1048576

unfoldable pub config_of : List ℕ → Config
config_of b = record {
  status = le32 b 0;
  queues = le32 b 4;
  services = le32 b 8;
  ciphers = le32 b 12;
  ciphers2 = le32 b 16;
  hashes = le32 b 20;
  macs = le32 b 24;
  macs2 = le32 b 28;
  aeads = le32 b 32;
  cipherkey = le32 b 36;
  authkey = le32 b 40;
  reserved = le32 b 44;
  size = le64 b 48;
}

-- the mask of these bits
abbrev pub bits : List ℕ → ℕ
bits [] = 0
bits (n ∷ l) = 2 ^ n + bits l

-- the mask has only bits of the list
unfoldable pub only_bits : List ℕ → ℕ → Bool
only_bits l mask = eqb (bit_and mask (bits l)) mask

-- "status 1; max_dataqueues 1 to 8; crypto_services only bits 0 to 3; each mask only bits of the algorithms below; both key limits at most 64;
-- reserved 0"; max_size at most its limit [4.2]
unfoldable pub config_ok : Config → Bool
config_ok k =
    eqb k.status 1
    && leb 1 k.queues
    && leb k.queues 8
    && only_bits (cipher ∷ hash ∷ mac ∷ aead ∷ []) k.services
    && only_bits ciphers k.ciphers
    && only_bits [] k.ciphers2
    && only_bits hashes k.hashes
    && only_bits macs k.macs
    && only_bits [] k.macs2
    && only_bits aeads k.aeads
    && leb k.cipherkey 64
    && leb k.authkey 64
    && eqb k.reserved 0
    && leb k.size size_limit

-- ---- the shares

-- each of the first n numbers passes
abbrev pub all_to : ℕ → (ℕ → Bool) → Bool
all_to zero p = true
all_to (suc n) p = all_to n p && p n

-- 01's terms "reserve" and "cap": "Each guest has a reserve and a cap: reserve ≤ cap ≤ 128 and the reserves sum to at most 128" [4.4]
unfoldable pub shares_ok : List ℕ → List ℕ → Bool
shares_ok reserves caps =
    all_to 8 (λ g. leb (get_or reserves g 0) (get_or caps g 0) && leb (get_or caps g 0) slot_count)
    && leb (sum_to 8 (λ g. get_or reserves g 0)) slot_count

-- ---- set-up

-- "Order: 18, 21, 20": by the length of the key store, and the configuration k of len bytes [4.2, 4.5]
abbrev pub set_up_order : ℕ → ℕ → Config → List ℕ → List ℕ → List Check
set_up_order store len k reserves caps = (sized store, bad_store) ∷ (eqb len 56 && config_ok k, bad_config) ∷ (shares_ok reserves caps, bad_shares) ∷ []

abbrev pub set_up_checks : List ℕ → List ℕ → List ℕ → List ℕ → List Check
set_up_checks config reserves caps store = set_up_order (length store) (length config) (config_of config) reserves caps

unfoldable pub set_up_answer : List ℕ → List ℕ → List ℕ → List ℕ → ℕ
set_up_answer config reserves caps store = first_fail (set_up_checks config reserves caps store)

-- "all 128 slots are free, no guest is attached" [4.6]
unfoldable pub fresh_table : Config → List ℕ → List ℕ → Table
fresh_table k reserves caps = record {
  config = k;
  occupied = record { low = 0; high = 0 };
  slots = replicate slot_count (slot_of free);
  guests = map (λ g. new_guest (get_or reserves g 0) (get_or caps g 0)) (0 ∷ 1 ∷ 2 ∷ 3 ∷ 4 ∷ 5 ∷ 6 ∷ 7 ∷ []);
}

-- the table and store that a set-up leaves; a refused one keeps the store, and in its table every reserve and cap is 0 and nothing is offered [4.6, 4.7]
unfoldable pub set_up : List ℕ → List ℕ → List ℕ → List ℕ → World
set_up config reserves caps store =
    cond (granted (set_up_answer config reserves caps store))
    (record { table = fresh_table (config_of config) reserves caps; store = replicate store_size 0 })
    (record { table = fresh_table (config_of []) [] []; store = store })

-- ---- attach: "Only the value 1 (revision 1) is taken, else 19", "Order: 18, guest above 7 (16), 19; else 0" [5.1, 5.2]

abbrev pub attach_checks : ℕ → ℕ → ℕ → List Check
attach_checks store g word = (sized store, bad_store) ∷ (ltb g 8, bad_guest) ∷ (eqb word 1, bad_feature) ∷ []
