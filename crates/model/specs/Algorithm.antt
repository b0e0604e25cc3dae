-- Paper 01, "Rules per algorithm", with tickets K4 and K12. The numbers of services, directions and algorithms are document 001's. [3, 9]
use Rattle.std.specs.Prelude.{ℕ, ◌+◌, ◌-◌, ◌^◌, List, [], ◌∷◌, Bool, false, cond, not, ◌&&◌, ◌||◌, eqb, leb, ltb}
use Rattle.model.specs.declared.Lengths.{Lengths}
use Rattle.model.specs.Lens.{Lens, one_of, span, multiple, at_least, any, Rule, or_in, ruled}

-- ---- the services [3.1]

abbrev pub cipher : ℕ
cipher = 0

abbrev pub hash : ℕ
hash = 1

abbrev pub mac : ℕ
mac = 2

abbrev pub aead : ℕ
aead = 3

-- ---- the directions of a cipher or AEAD [3.4]

abbrev pub encrypt : ℕ
encrypt = 1

abbrev pub decrypt : ℕ
decrypt = 2

-- ---- the algorithms of each service [3.5]

-- AES_ECB 2, AES_CBC 3, AES_CTR 4, 3DES_CBC 8, AES_XTS 13
abbrev pub ciphers : List ℕ
ciphers = 2 ∷ 3 ∷ 4 ∷ 8 ∷ 13 ∷ []

-- MD5 1, SHA1 2, SHA_224 3, SHA_256 4, SHA_384 5, SHA_512 6
abbrev pub hashes : List ℕ
hashes = 1 ∷ 2 ∷ 3 ∷ 4 ∷ 5 ∷ 6 ∷ []

-- HMAC over the same six, CMAC_AES 26
abbrev pub macs : List ℕ
macs = 1 ∷ 2 ∷ 3 ∷ 4 ∷ 5 ∷ 6 ∷ 26 ∷ []

-- GCM 1, CCM 2, CHACHA20_POLY1305 3
abbrev pub aeads : List ℕ
aeads = 1 ∷ 2 ∷ 3 ∷ []

abbrev pub ccm : ℕ
ccm = 2

-- ---- cipher

abbrev pub aes : Lens
aes = one_of (16 ∷ 24 ∷ 32 ∷ [])

-- "AES_ECB, AES_CBC, AES_CTR: key 16, 24 or 32. AES_XTS: key 32 or 64. 3DES_CBC: key 24" [9.1]
abbrev pub cipher_keys : Rule
cipher_keys = (2, aes) ∷ (3, aes) ∷ (4, aes) ∷ (8, one_of (24 ∷ [])) ∷ (13, one_of (32 ∷ 64 ∷ [])) ∷ []

-- "IV: 0 for ECB, 8 for 3DES, else 16" [9.1]
abbrev pub cipher_ivs : Rule
cipher_ivs = (2, one_of (0 ∷ [])) ∷ (3, one_of (16 ∷ [])) ∷ (4, one_of (16 ∷ [])) ∷ (8, one_of (8 ∷ [])) ∷ (13, one_of (16 ∷ [])) ∷ []

-- "Source: a multiple of 16 for AES_ECB and AES_CBC, of 8 for 3DES_CBC, any for CTR, at least 16 for XTS" [9.1]
abbrev pub cipher_sources : Rule
cipher_sources = (2, multiple 16) ∷ (3, multiple 16) ∷ (4, any) ∷ (8, multiple 8) ∷ (13, at_least 16) ∷ []

-- ---- hash and MAC

-- "MD5 16, SHA1 20, SHA_224 28, SHA_256 32, SHA_384 48, SHA_512 64; result 1 to that length" [9.2]
abbrev pub hash_results : Rule
hash_results = (1, span 1 16) ∷ (2, span 1 20) ∷ (3, span 1 28) ∷ (4, span 1 32) ∷ (5, span 1 48) ∷ (6, span 1 64) ∷ []

-- "HMAC over the same six, key 1 to 64, result 1 to the digest; CMAC_AES, key 16, 24 or 32, result 1 to 16" [9.3]
abbrev pub mac_keys : Rule
mac_keys = (1, span 1 64) ∷ (2, span 1 64) ∷ (3, span 1 64) ∷ (4, span 1 64) ∷ (5, span 1 64) ∷ (6, span 1 64) ∷ (26, aes) ∷ []

abbrev pub cmac_results : Rule
cmac_results = (26, span 1 16) ∷ []

-- ---- AEAD

-- "GCM key 16, 24, 32, IV 12, tag 4, 8, 12 to 16; CCM key 16, 24, 32, IV 7 to 13, tag 4 to 16 even; CHACHA20_POLY1305 key 32, IV 12, tag 16" [9.4]
abbrev pub aead_keys : Rule
aead_keys = (1, aes) ∷ (2, aes) ∷ (3, one_of (32 ∷ [])) ∷ []

abbrev pub aead_ivs : Rule
aead_ivs = (1, one_of (12 ∷ [])) ∷ (2, span 7 13) ∷ (3, one_of (12 ∷ [])) ∷ []

abbrev pub aead_tags : Rule
aead_tags =
    (1, one_of (4 ∷ 8 ∷ 12 ∷ 13 ∷ 14 ∷ 15 ∷ 16 ∷ []))
    ∷ (2, one_of (4 ∷ 6 ∷ 8 ∷ 10 ∷ 12 ∷ 14 ∷ 16 ∷ []))
    ∷ (3, one_of (16 ∷ []))
    ∷ []

-- ---- by service; a length that the service does not have is not looked at

-- the algorithm stands in the rules
unfoldable pub known : ℕ → ℕ → Bool
known service algo =
    eqb service cipher && or_in false algo ciphers
    || eqb service hash && or_in false algo hashes
    || eqb service mac && or_in false algo macs
    || eqb service aead && or_in false algo aeads

unfoldable pub key_ok : ℕ → ℕ → ℕ → Bool
key_ok service algo n =
    eqb service cipher && ruled cipher_keys algo n
    || eqb service hash
    || eqb service mac && ruled mac_keys algo n
    || eqb service aead && ruled aead_keys algo n

-- a hash or MAC result, or an AEAD tag
unfoldable pub result_ok : ℕ → ℕ → ℕ → Bool
result_ok service algo n =
    eqb service cipher
    || eqb service hash && ruled hash_results algo n
    || eqb service mac && (ruled hash_results algo n || ruled cmac_results algo n)
    || eqb service aead && ruled aead_tags algo n

unfoldable pub iv_ok : ℕ → ℕ → ℕ → Bool
iv_ok service algo n =
    eqb service cipher && ruled cipher_ivs algo n || eqb service hash || eqb service mac || eqb service aead && ruled aead_ivs algo n

unfoldable pub source_ok : ℕ → ℕ → ℕ → Bool
source_ok service algo n = eqb service cipher && ruled cipher_sources algo n || eqb service hash || eqb service mac || eqb service aead

-- the lengths of an AEAD decryption, by K4: "the source is ciphertext followed by tag, at least the tag's length, and the destination is source
-- minus tag" [9.9]
unfoldable pub decrypted_ok : Lengths → Bool
decrypted_ok n = leb n.result n.source && eqb n.written (n.source - n.result)

-- what is written before the status: of a cipher "Destination equals source"; a hash or MAC writes its result; of an AEAD that encrypts "Destination
-- equals source plus tag" [9.7 to 9.9]
unfoldable pub written_ok : ℕ → ℕ → Lengths → Bool
written_ok service direction n =
    eqb service cipher && eqb n.written n.source
    || (eqb service hash || eqb service mac) && eqb n.written n.result
    || eqb service aead && eqb direction encrypt && eqb n.written (n.source + n.result)
    || eqb service aead && eqb direction decrypt && decrypted_ok n

-- of an AEAD, by K12: "The payload is the source when encrypting and the destination when decrypting" [9.10]
abbrev pub payload : ℕ → Lengths → ℕ
payload direction n = cond (eqb direction encrypt) n.source n.written

-- by K12: "With CCM the payload must be below 256 to the power (15 minus IV length)" [9.10]
unfoldable pub payload_ok : ℕ → ℕ → ℕ → Lengths → Bool
payload_ok service algo direction n = not (eqb service aead && eqb algo ccm) || ltb (payload direction n) (256 ^ (15 - n.iv))
