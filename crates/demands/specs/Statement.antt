-- The demands, as statements about the definitions of crate model. The other files of this crate prove them; no proof stands here.
-- In brackets: the rules of docs/RULES.md.
-- Assumes nothing.
use Rattle.std.specs.Prelude.{◌≡◌, ◌⊎◌, Bool, true, false, cond, not, ◌&&◌, ◌||◌, List, [], ◌∷◌, ◌++◌, map, ℕ, suc, ◌+◌, ◌-◌, ◌^◌, ◌≤◌, ◌<◌, eqb, leb, ltb, length, get_or, take}
use Rattle.model.specs.declared.Table.{Table}
use Rattle.model.specs.Bytes.{le, le32}
use Rattle.model.specs.Answer.{ok, err, badmsg, notsupp, invsess, nospc, bad_guest, no_outcome, bad_store, bad_feature, bad_shares, bad_config, Check}
use Rattle.model.specs.Lens.{or_in}
use Rattle.model.specs.Algorithm.{cipher, aead, ccm, iv_ok}
use Rattle.model.specs.Session.{slot_count, last_number, World, Place, free, slots_of, with_slots, place_at, guest_at, directed}
use Rattle.model.specs.View.{live, live_at, find, holds, total, view, full}
use Rattle.model.specs.Setup.{config_of, fresh_table, set_up_checks, set_up_answer, set_up}
use Rattle.model.specs.Control.{opcode, service, is_create, numbers_left}
use Rattle.model.specs.Data.{number, flag, operation_ok, direction_of, start, lengths, fits, part_of, key_bytes, status}
use Rattle.model.specs.Device.{Request, Attach, Control, Admit, Part, KeyAnswer, Key, Finish, Outcome, no_job, checks, reply, next}
use Rattle.model.specs.Calls.{Call, run, outcomes, only, At, past_of, WellFormed}
use Rattle.laws.specs.Judge.{Passed}

-- ---- demand 1: every input gets a defined answer; a refusal has its number, writes only its outcome bytes and changes nothing [14.1]

-- the numbers that a call can answer; BADMSG is finish's alone [2.7]
abbrev pub numbers_of : Request → List ℕ
numbers_of (Attach word) = ok ∷ bad_guest ∷ bad_store ∷ bad_feature ∷ []
numbers_of (Control r b) = ok ∷ err ∷ notsupp ∷ nospc ∷ bad_guest ∷ no_outcome ∷ bad_store ∷ []
numbers_of (Admit r b) = ok ∷ err ∷ notsupp ∷ invsess ∷ bad_guest ∷ no_outcome ∷ []
numbers_of (Part x r b) = ok ∷ err ∷ notsupp ∷ invsess ∷ bad_guest ∷ no_outcome ∷ []
numbers_of (KeyAnswer n) = ok ∷ invsess ∷ bad_guest ∷ bad_store ∷ []
numbers_of (Key n) = ok ∷ invsess ∷ bad_guest ∷ bad_store ∷ []
numbers_of (Finish op verdict b) = ok ∷ err ∷ badmsg ∷ bad_guest ∷ no_outcome ∷ []

-- the writable bytes that a call was given
abbrev pub buffer : Request → List ℕ
buffer (Attach word) = []
buffer (Control r b) = b
buffer (Admit r b) = b
buffer (Part x r b) = b
buffer (KeyAnswer n) = []
buffer (Key n) = []
buffer (Finish op verdict b) = b

-- c is b with the status as its last byte, and every other byte kept
pub record LastByte (b c : List ℕ) (status : ℕ) : Type 0 where
  pub nonempty : 0 < length b
  pub size : length c ≡ length b
  pub last : get_or c (length b - 1) 0 ≡ status
  pub others : (i : ℕ) → (suc i ≡ length b → ⊥) → get_or c i 0 ≡ get_or b i 0

-- what a refusal with a number n from 1 to 5 leaves in the writable bytes
abbrev pub Refusal : Request → ℕ → List ℕ → Type 0
Refusal (Attach word) n c = c ≡ []
-- 16 bytes: session_id 0, status, padding 0; one byte: status
Refusal (Control r b) n c = ((length b ≡ 16) × (c ≡ le 8 0 ++ le 4 n ++ le 4 0)) ⊎ ((length b ≡ 1) × (c ≡ n ∷ []))
Refusal (Admit r b) n c = LastByte b c n
Refusal (Part x r b) n c = c ≡ b
Refusal (KeyAnswer m) n c = c ≡ []
Refusal (Key m) n c = c ≡ []
Refusal (Finish op verdict b) n c = LastByte b c n

pub record Demand1 (w : World) (g : ℕ) (q : Request) : Type 0 where
  pub number : or_in false (reply w g q).answer (numbers_of q) ≡ true
  -- every answer but 0 leaves table and key store as before
  pub kept : ((reply w g q).answer ≡ ok → ⊥) → next w g q ≡ w
  -- an answer from 16 on writes nothing
  pub silent : bad_guest ≤ (reply w g q).answer → (reply w g q).writable ≡ buffer q
  -- one from 1 to 5 writes the bytes that 01 names and no other
  pub written : 0 < (reply w g q).answer → (reply w g q).answer < bad_guest → Refusal q (reply w g q).answer (reply w g q).writable

-- of a refused set-up: the key store stays, and the table is the empty one [4.7]
pub record SetUpRefused (config reserves caps store : List ℕ) : Type 0 where
  pub number : or_in false (set_up_answer config reserves caps store) (bad_store ∷ bad_shares ∷ bad_config ∷ []) ≡ true
  pub kept : (set_up config reserves caps store).store ≡ store
  pub empty : (set_up config reserves caps store).table ≡ fresh_table (config_of []) [] []

-- ---- demand 2: accepted exactly if every check holds, else the first to fail in 01's order answers [14.2]

-- the answer where every check holds: a finish answers the byte that it writes
abbrev pub success : Request → ℕ
success (Attach word) = ok
success (Control r b) = ok
success (Admit r b) = ok
success (Part x r b) = ok
success (KeyAnswer n) = ok
success (Key n) = ok
success (Finish op verdict b) = status op verdict

-- the answer of checks in order, where `success` is that of a call whose checks all hold
pub record Answered (cs : List Check) (answer success : ℕ) : Type 0 where
  -- every check holds
  pub all : Passed cs → answer ≡ success
  -- those before it hold, and this one does not: its number answers
  pub first : (before after : List Check) (n : ℕ) → cs ≡ before ++ (false, n) ∷ after → Passed before → answer ≡ n
  -- an answer 0 tells that every check holds
  pub only : answer ≡ ok → Passed cs

abbrev pub Demand2 : World → ℕ → Request → Type 0
Demand2 w g q = Answered (checks w g q) (reply w g q).answer (success q)

abbrev pub SetUpAnswered : List ℕ → List ℕ → List ℕ → List ℕ → Type 0
SetUpAnswered config reserves caps store = Answered (set_up_checks config reserves caps store) (set_up_answer config reserves caps store) ok

-- what a call whose checks all hold gives its caller [14.4]
abbrev pub Given : World → ℕ → Request → Outcome → Type 0
Given w g (Attach word) o = o.writable ≡ []
-- a create: the next session number, status 0, padding 0; a destroy: status 0
Given w g (Control r b) o =
    ((is_create r ≡ true) × (o.writable ≡ le 8 (suc (guest_at w.table g).last) ++ le 4 ok ++ le 4 0)) ⊎ ((is_create r ≡ false) × (o.writable ≡ ok ∷ []))
-- nothing is written until finish
Given w g (Admit r b) o = (o.writable ≡ b) × (o.job ≡ record { guest = g; number = number r; opcode = opcode r })
Given w g (Part x r b) o = (o.writable ≡ b) × (o.bytes ≡ part_of x r)
Given w g (KeyAnswer n) o = o.writable ≡ []
Given w g (Key n) o = o.bytes ≡ key_bytes (find w g n)
Given w g (Finish op verdict b) o = LastByte b o.writable (status op verdict)

-- and one refused with answer n: it names zeros, and its part or key is empty
pub record NotGiven (o : Outcome) : Type 0 where
  pub job : o.job ≡ no_job
  pub bytes : o.bytes ≡ []

pub record Gets (w : World) (g : ℕ) (q : Request) : Type 0 where
  pub given : Passed (checks w g q) → Given w g q (reply w g q)
  pub refused : (Passed (checks w g q) → ⊥) → NotGiven (reply w g q)

-- the slot of the session that a data request names
abbrev pub named : Table → ℕ → List ℕ → Place
named t g r = place_at t (live_at t g (number r))

-- a data request of guest g with readable bytes r and writable bytes b is accepted exactly if [14.3]
pub record Acceptable (t : Table) (g : ℕ) (r b : List ℕ) : Type 0 where
  -- its guest is attached
  pub guest : g < 8
  pub attached : (guest_at t g).attached ≡ true
  -- its operation offered
  pub operation : operation_ok t.config (opcode r) ≡ true
  -- its mode and type those that 01 takes
  pub mode : flag r ≡ 1
  pub type : service r ≡ cipher → le32 r 64 ≡ 1
  -- its session live,
  pub alive : live t g (number r) (named t g r) ≡ true
  -- its own guest's,
  pub own : (named t g r).owner ≡ g
  -- of the matching service and direction
  pub serves : (named t g r).session.service ≡ service r
  pub directs : directed (service r) ≡ true → (named t g r).session.direction ≡ direction_of (opcode r)
  -- and its lengths fit both buffers,
  pub readable : length r ≡ start r + (lengths r).iv + (lengths r).source + (lengths r).aad
  pub writable : length b ≡ (lengths r).written + 1
  -- the size limit
  pub limit : (lengths r).iv + (lengths r).source + (lengths r).aad + (lengths r).written ≤ t.config.size
  -- and the algorithm
  pub algorithm : fits (named t g r).session (lengths r) ≡ true

-- ---- tickets K4 and K12: the lengths of an AEAD request, by its source and tag, and by CCM's payload [9.8 to 9.10]

-- K12's bound on CCM's payload
abbrev pub ccm_bound : List ℕ → ℕ
ccm_bound r = 256 ^ (15 - (lengths r).iv)

-- a payload of n bytes, where the session has this algorithm
abbrev pub bounded : ℕ → List ℕ → ℕ → Bool
bounded algo r n = not (eqb algo ccm) || ltb n (ccm_bound r)

-- the eleven checks before the length rules hold, and IV, AAD and tag are as the session asks
pub record AllElse (w : World) (g : ℕ) (r b : List ℕ) : Type 0 where
  pub before : Passed (take 11 (checks w g (Admit r b)))
  pub iv : iv_ok aead (named w.table g r).session.algo (lengths r).iv ≡ true
  pub aad : (lengths r).aad ≡ (named w.table g r).session.aad
  pub tag : (lengths r).result ≡ (named w.table g r).session.result

pub record AeadLengths (w : World) (g : ℕ) (r b : List ℕ) : Type 0 where
  -- "for decryption the source is ciphertext followed by tag, at least the tag's length, and the destination is source minus tag"; then the status
  pub tagged : opcode r ≡ 769 → (reply w g (Admit r b)).answer ≡ ok → (lengths r).result ≤ (lengths r).source
  pub decrypted : opcode r ≡ 769 → (reply w g (Admit r b)).answer ≡ ok → length b ≡ (lengths r).source - (lengths r).result + 1
  -- for encryption the destination is source plus tag
  pub encrypted : opcode r ≡ 768 → (reply w g (Admit r b)).answer ≡ ok → length b ≡ (lengths r).source + (lengths r).result + 1
  -- "With CCM the payload must be below 256 to the power (15 minus IV length)": "the source when encrypting and the destination when decrypting"
  pub source_below : opcode r ≡ 768 → (named w.table g r).session.algo ≡ ccm → (reply w g (Admit r b)).answer ≡ ok → (lengths r).source < ccm_bound r
  pub destination_below : opcode r ≡ 769 → (named w.table g r).session.algo ≡ ccm → (reply w g (Admit r b)).answer ≡ ok → (lengths r).written < ccm_bound r
  -- these lengths decide where all else is right: accepted exactly if they are so, else 1
  pub encryption : opcode r ≡ 768 → AllElse w g r b → (reply w g (Admit r b)).answer
      ≡ cond (eqb (lengths r).written ((lengths r).source + (lengths r).result) && bounded (named w.table g r).session.algo r (lengths r).source) ok err
  pub decryption : opcode r ≡ 769 → AllElse w g r b → (reply w g (Admit r b)).answer
      ≡ cond (leb (lengths r).result (lengths r).source && eqb (lengths r).written ((lengths r).source - (lengths r).result)
      && bounded (named w.table g r).session.algo r (lengths r).written) ok err

-- ---- ticket K2: "A clear slot names no owner, whatever its fields hold" [14.13]

-- the slot, its fields cleared where it is clear
abbrev pub scrubbed : Place → Place
scrubbed c = cond c.held c free

abbrev pub scrubbed_world : World → World
scrubbed_world w = record { table = with_slots w.table (map scrubbed (slots_of w.table)); store = w.store }

-- two tables, whatever they hold, that differ in the fields of clear slots alone
abbrev pub Alike : World → World → Type 0
Alike w x = scrubbed_world w ≡ scrubbed_world x

-- over the list cs, from each of the two
pub record ClearSlots (w x : World) (cs : List (Call Request)) : Type 0 where
  -- every guest gets the same, call by call
  pub same : (g : ℕ) → outcomes g w cs ≡ outcomes g x cs
  -- and what is left differs in the fields of clear slots alone
  pub after : Alike (run w cs) (run x cs)

-- ---- demand 3: one claim about the whole list of calls [14.8 to 14.11]

-- each well-formed create of guest g comes while it holds fewer than its reserve [14.10]
unfoldable pub Within : ℕ → World → List (Call Request) → Type 0
Within g w [] = Unit {0}
Within g w (c ∷ cs) =
    (c.guest ≡ g → (r b : List ℕ) → c.request ≡ Control r b → WellFormed w g r b → holds w.table g < (guest_at w.table g).reserve)
    × Within g (next w c.guest c.request) cs

-- of the list cs, from the table and key store w that a set-up left
pub record Demand3 (w : World) (cs : List (Call Request)) : Type 0 where
  -- no guest holds more sessions than its cap, and all together hold at most 128 [14.8]
  pub caps : (g : ℕ) → holds (run w cs).table g ≤ (guest_at w.table g).cap
  pub bound : total (run w cs).table ≤ slot_count
  -- a well-formed create that comes next, from an attached guest that holds fewer than its reserve and has numbers left, is granted;
  -- 01's term "numbers left", with K12: the last one given to it since its last granted attach is not 18,446,744,073,709,551,615 [14.9, 14.7]
  pub grants : (g : ℕ) (r b : List ℕ)
      → (past_of g w cs).attached ≡ true
      → WellFormed (run w cs) g r b
      → ((past_of g w cs).last ≡ last_number → ⊥)
      → holds (run w cs).table g < (guest_at w.table g).reserve
      → (reply (run w cs) g (Control r b)).answer ≡ ok
  -- a guest that stays within its reserve gets, call by call, what it gets in the list with only its own calls [14.10]
  pub same : (g : ℕ) → Within g w cs → outcomes g w cs ≡ outcomes g w (only g cs)
  -- the history rule: what a guest holds is its granted creates less its granted destroys since its last granted attach [14.11]
  pub history : (g : ℕ) → holds (run w cs).table g + (past_of g w cs).destroys ≡ (past_of g w cs).creates
  -- each granted create took the next session number, from 1 to at most 18,446,744,073,709,551,615 [6.6]
  pub numbers : (g : ℕ) → (past_of g w cs).last ≡ (past_of g w cs).creates
  pub range : (g : ℕ) → (past_of g w cs).last ≤ last_number
  -- and the table knows of each guest what the history says: whether it is attached, and the last number given to it
  pub attached : (g : ℕ) → (guest_at (run w cs).table g).attached ≡ (past_of g w cs).attached
  pub last : (g : ℕ) → (guest_at (run w cs).table g).last ≡ (past_of g w cs).last

-- ---- ticket K7: "two histories from the same set-up in which one guest makes the same calls and the others differ at will" [14.12]

-- "a create refused for room", by its cause and not by its number: well-formed, with numbers left, and NOSPC's condition is true
pub record RefusedForRoom (w : World) (g : ℕ) (r b : List ℕ) : Type 0 where
  pub formed : WellFormed w g r b
  pub numbers : numbers_left (view w g) ≡ true
  pub crowded : full w.table g ≡ true
  pub refused : (reply w g (Control r b)).answer ≡ ok → ⊥

-- guest g got the same over the history cs from w and over the history ds from x
pub record Same (g : ℕ) (w x : World) (cs ds : List (Call Request)) : Type 0 where
  -- call by call, each answer, outcome byte and other writable byte, each session number and operation named, each part and key handed on
  pub got : outcomes g w cs ≡ outcomes g x ds
  -- and all that is kept for it is the same: its record, how many sessions it holds, and each live session with its key
  pub kept : view (run w cs) g ≡ view (run x ds) g

-- "the first answer that differs for that guest": that to one control request, which it makes in both histories
pub record FirstDifference (g : ℕ) (w x : World) (cs ds : List (Call Request)) : Type 0 where
  pub readable : List ℕ
  pub writable : List ℕ
  pub here : At g (Control readable writable) cs
  pub there : At g (Control readable writable) ds
  -- "is a create
  pub create : is_create readable ≡ true
  -- refused for room in one and granted in the other"
  pub room :
      (RefusedForRoom (run w here.before) g readable writable × ((reply (run x there.before) g (Control readable writable)).answer ≡ ok))
      ⊎ (RefusedForRoom (run x there.before) g readable writable × ((reply (run w here.before) g (Control readable writable)).answer ≡ ok))
  -- "Up to there every answer, outcome byte, session number and key is equal"; so it is the same call of the guest in both
  pub before : Same g w x here.before there.before

-- "if any"
abbrev pub Learns : ℕ → World → World → List (Call Request) → List (Call Request) → Type 0
Learns g w x cs ds = Same g w x cs ds ⊎ FirstDifference g w x cs ds
