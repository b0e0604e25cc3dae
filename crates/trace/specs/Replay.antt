-- Paper 01, "Replay": what a good trace is, the calls that it asks for, and their answers. [13]
use Rattle.std.specs.Prelude.{ℕ, zero, suc, ◌+◌, ◌*◌, ◌-◌, Bool, cond, not, ◌&&◌, ◌||◌, List, [], ◌∷◌, ◌++◌, leb, eqb, length, take, replicate, Option, None, Some}
use Rattle.model.specs.Bytes.{byte, le32, le, part}
use Rattle.model.specs.Algorithm.{cipher, hash, mac, aead, ciphers, hashes, macs, aeads}
use Rattle.model.specs.Session.{store_size, World}
use Rattle.model.specs.Setup.{size_limit, bits, set_up}
use Rattle.model.specs.Device.{Request, Attach, Control, Admit, reply, next}
use Rattle.model.specs.Calls.{Call}
use Rattle.trace.specs.declared.Record.{Record}
use Rattle.trace.specs.declared.Records.{Records}

-- ---- the trace

-- the 16-bit field at `at`
unfoldable pub le16 : List ℕ → ℕ → ℕ
le16 s at = byte s at + 256 * byte s (at + 1)

-- "kind (0 attach, 1 control, 2 data), guest (8 bits each), readable length (16), writable length (16, at most 4,096), readable bytes" [13.2]
unfoldable pub record_at : List ℕ → ℕ → Record
record_at s at = record { kind = byte s at; guest = byte s (at + 1); readable = le16 s (at + 2); writable = le16 s (at + 4) }

-- where it ends
abbrev pub record_end : List ℕ → ℕ → ℕ
record_end s at = at + 6 + (record_at s at).readable

-- the record r at `at` ends at `end` or before, is of one of the three kinds, and keeps their lengths; "an attach has 4 readable bytes" [13.2, 13.3]
unfoldable pub fits : Record → ℕ → ℕ → Bool
fits r at end =
    leb (at + 6 + r.readable) end && leb r.kind 2 && (not (eqb r.kind 0) || eqb r.readable 4) && leb r.writable 4096

-- n records from `at` end exactly at `end`
unfoldable pub walks : List ℕ → ℕ → ℕ → ℕ → Bool
walks s end at zero = eqb at end
walks s end at (suc n) = fits (record_at s at) at end && walks s end (record_end s at) n

-- "an 8-byte trailer: distance back from the trailer to the first record (32 bits), record count (32 bits)" [13.1]
abbrev pub trailer : List ℕ → ℕ
trailer s = length s - 8

unfoldable pub records_of : List ℕ → Records
records_of s = record { first = trailer s - le32 s (trailer s); count = le32 s (trailer s + 4) }

-- "at most 65,536 bytes", room for the trailer, no distance past the start, and records that end exactly at the trailer with the stated count [13.3]
unfoldable pub good_trace : List ℕ → Bool
good_trace s =
    leb 8 (length s)
    && leb (trailer s) 65528
    && leb (le32 s (trailer s)) (trailer s)
    && walks s (trailer s) (records_of s).first (records_of s).count

unfoldable pub opened : List ℕ → Option Records
opened s = cond (good_trace s) (Some (records_of s)) None

-- ---- its calls

-- the request of a record, by kind, readable and writable bytes; "4 readable bytes, the feature word" [13.2]
unfoldable pub request_of : ℕ → List ℕ → List ℕ → Request
request_of kind r b = cond (eqb kind 0) (Attach (le32 r 0)) (cond (eqb kind 1) (Control r b) (Admit r b))

-- "at most 4,096", and "writable bytes start as 0" [13.6]
unfoldable pub blank : ℕ → List ℕ
blank n = take n (replicate 4096 0)

unfoldable pub call_at : List ℕ → ℕ → Call Request
call_at s at =
    let r = record_at s at in
    record { guest = r.guest; request = request_of r.kind (part s (at + 6) r.readable) (blank r.writable) }

unfoldable pub calls_from : List ℕ → ℕ → ℕ → List (Call Request)
calls_from s at zero = []
calls_from s at (suc n) = call_at s at ∷ calls_from s (record_end s at) n

abbrev pub calls_of : List ℕ → List (Call Request)
calls_of s = calls_from s (records_of s).first (records_of s).count

-- ---- "Set-up: everything offered, limits at their largest, reserve 8 and cap 32 each" [13.6]

unfoldable pub everything : List ℕ
everything =
    le 4 1
    ++ le 4 8
    ++ le 4 (bits (cipher ∷ hash ∷ mac ∷ aead ∷ []))
    ++ le 4 (bits ciphers)
    ++ le 4 0
    ++ le 4 (bits hashes)
    ++ le 4 (bits macs)
    ++ le 4 0
    ++ le 4 (bits aeads)
    ++ le 4 64
    ++ le 4 64
    ++ le 4 0
    ++ le 8 size_limit

-- with a key store b
unfoldable pub started_on : List ℕ → World
started_on b = set_up everything (replicate 8 8) (replicate 8 32) b

abbrev pub started : World
started = started_on (replicate store_size 0)

-- ---- the answers

-- of calls in order, each on what the one before left
unfoldable pub answers_from : World → List (Call Request) → List ℕ
answers_from w [] = []
answers_from w (c ∷ cs) = (reply w c.guest c.request).answer ∷ answers_from (next w c.guest c.request) cs

-- "one line per record, index from 0 and answer": those that the lines show; a bad trace has none [13.5]
unfoldable pub shown : List ℕ → List ℕ
shown s = cond (good_trace s) (answers_from started (calls_of s)) []
