-- Ticket K7 computed: guest 0 makes the same calls in three histories from one set-up, beside other calls of guests 1 and 2. It sees a
-- difference between the first and the second, and none between the first and the third.
-- Assumes nothing.
use Rattle.std.specs.Prelude.{ℕ, ◌≡◌, List, [], ◌∷◌, map, replicate, take, set}
use Rattle.model.specs.Answer.{ok, notsupp, invsess, nospc}
use Rattle.model.specs.Session.{store_size, World}
use Rattle.model.specs.View.{live_at}
use Rattle.model.specs.Setup.{set_up}
use Rattle.model.specs.Device.{Request, Attach, Key, Outcome}
use Rattle.model.specs.Calls.{Call, run, outcomes, only}
use Rattle.cases.specs.Build.{offer, cipher_create, hash_create, mac_create, cipher_data, asking, ending, sending}

-- guest 0 has a reserve of 1 and guest 1 one of 126, so one session is left for whoever asks first
abbrev pub reserves : List ℕ
reserves = 1 ∷ 126 ∷ replicate 6 0

abbrev pub caps : List ℕ
caps = replicate 8 128

abbrev pub start : World
start = set_up offer reserves caps (replicate store_size 0)

-- the same without the cipher service
abbrev pub elsewhere : World
elsewhere = set_up (set offer 8 14) reserves caps (replicate store_size 0)

abbrev pub by : ℕ → Request → Call Request
by g q = record { guest = g; request = q }

-- ---- guest 0's calls

abbrev pub attach : Call Request
attach = by 0 (Attach 1)

-- within its reserve
abbrev pub create : Call Request
create = by 0 (asking (cipher_create 3 1 16))

abbrev pub key : Call Request
key = by 0 (Key 1)

abbrev pub request : Call Request
request = by 0 (sending (cipher_data 0 1 16 32 32) 33)

-- above it
abbrev pub another : Call Request
another = by 0 (asking (hash_create 4 32))

-- ---- three histories

abbrev pub quiet : List (Call Request)
quiet = attach ∷ create ∷ key ∷ request ∷ another ∷ []

-- guest 2 takes the session that is left, in the slot that guest 0 would have had
abbrev pub busy : List (Call Request)
busy = by 2 (Attach 1) ∷ attach ∷ by 2 (asking (mac_create 2 20 64)) ∷ create ∷ by 1 (Attach 1) ∷ key ∷ request ∷ another ∷ []

-- and gives it back in time
abbrev pub returned : List (Call Request)
returned = by 2 (Attach 1) ∷ attach ∷ by 2 (asking (mac_create 2 20 64)) ∷ create ∷ by 1 (Attach 1) ∷ key ∷ by 2 (ending 515 1) ∷ request ∷ another ∷ []

abbrev pub answers : List Outcome → List ℕ
answers = map (λ o. o.answer)

pub record Computed : Type 0 where
  -- guest 0's calls are the same
  pub calls : (only 0 quiet ≡ only 0 busy) × (only 0 quiet ≡ only 0 returned)
  -- its last create is granted in the first history and refused in the second, and before that all it gets is equal
  pub granted : answers (outcomes 0 start quiet) ≡ ok ∷ ok ∷ ok ∷ ok ∷ ok ∷ []
  pub refused : answers (outcomes 0 start busy) ≡ ok ∷ ok ∷ ok ∷ ok ∷ nospc ∷ []
  pub before : take 4 (outcomes 0 start quiet) ≡ take 4 (outcomes 0 start busy)
  -- its session stands in another slot
  pub places : (live_at (run start quiet).table 0 1 ≡ 0) × (live_at (run start busy).table 0 1 ≡ 1)
  -- in the third all it gets is that of the first
  pub unseen : outcomes 0 start quiet ≡ outcomes 0 start returned
  -- from another set-up the first answer that differs need not be for room: its first create is answered 3
  pub offered : answers (outcomes 0 elsewhere quiet) ≡ ok ∷ notsupp ∷ invsess ∷ notsupp ∷ ok ∷ []
