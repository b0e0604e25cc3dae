-- The ways out of the public calls: a law for each, with what the callees' contracts say as premises and the call's own contract as conclusion.
-- Assumes nothing.
use Rattle.std.specs.Prelude.{ℕ, ◌<◌, ◌≡◌, Bool, true, List, [], ltb}
use Rattle.std.proofs.Math.Path.{refl, ap}
use Rattle.std.proofs.Common.{sym, ◌∙◌, lt-ltb}
use Rattle.std.proofs.Math.ListN.{length, replicate}
use borrow.Author.Tests.{eq-eqb, ne_eqb, eqb-true}
use Rattle.model.specs.declared.Config.{Config}
use Rattle.model.specs.declared.Field.{Field}
use Rattle.model.specs.declared.Session.{Session}
use Rattle.model.specs.declared.Table.{Table}
use Rattle.model.specs.Bytes.{le32, le64}
use Rattle.model.specs.Answer.{ok, first_fail, data_outcome, data_bytes}
use Rattle.model.specs.Session.{World, slots_of, guest_at}
use Rattle.model.specs.View.{owned, live_at, find, is_live, session_in, present}
use Rattle.model.specs.Act.{attach, wipe, table_after, store_after}
use Rattle.model.specs.Setup.{config_of, set_up_order, set_up_answer, fresh_table, set_up, attach_checks}
use Rattle.model.specs.Data.{part_of, key_checks, finish_checks, status}
use Rattle.model.specs.Device.{Attach, Admit, Part, KeyAnswer, Key, Finish, no_job, Outcome, checks_of, outcome, checks, reply, next, world, bare}
use Rattle.laws.specs.Judge.{first_passed, holds_at}
use Rattle.laws.specs.Effect.{replied, granted_next, refused_next, find_bare}
use Rattle.keystore.specs.Stored.{cleared, key_at}
use Rattle.keystore.specs.StoredLaws.{found_key}
use Rattle.device.specs.Stages.{admission, fetching}

-- ---- set-up

module _ (c rs cs b : List ℕ) (k : Config) (a : ℕ) (hk : k ≡ config_of c) (e : a ≡ first_fail (set_up_order (length b) (length c) k rs cs)) where
  answer_set_up : a ≡ set_up_answer c rs cs b
  unfolding set_up_answer
  answer_set_up = rw (← hk) e

  pub set_up_refused : (a ≡ 0 → ⊥) → (none : Config) → none ≡ config_of [] → (u : Table) → u ≡ fresh_table none (replicate 8 0) (replicate 8 0)
      → (a ≡ set_up_answer c rs cs b) × ((u ≡ (set_up c rs cs b).table) × (b ≡ (set_up c rs cs b).store))
  unfolding set_up fresh_table
  set_up_refused d none hn u hu = (answer_set_up, rw (← answer_set_up, ne_eqb a ok d) (hu ∙ rw hn, refl))

  pub set_up_done : a ≡ 0 → (b' : List ℕ) → b' ≡ replicate (length b) 0 → (u : Table) → u ≡ fresh_table k rs cs
      → (a ≡ set_up_answer c rs cs b) × ((u ≡ (set_up c rs cs b).table) × (b' ≡ (set_up c rs cs b).store))
  unfolding set_up
  set_up_done z b' hb u hu =
      let p = first_passed (set_up_order (length b) (length c) k rs cs) refl (sym e ∙ z) in
      let n : length b ≡ 16384 = eqb-true (length b) 16384 p.0 in
      (answer_set_up, rw (← answer_set_up, eq-eqb a ok z) (rw (← hk) hu, hb ∙ ap (λ (m : ℕ). replicate m 0) n))

-- ---- attach

module _ (t : Table) (b : List ℕ) (g word a : ℕ) (e : a ≡ first_fail (attach_checks (length b) g word)) where
  abbrev w : World
  w = world t b

  found : a ≡ first_fail (checks w g (Attach word))
  unfolding checks checks_of
  found = e

  answer_attach : a ≡ (reply w g (Attach word)).answer
  unfolding outcome
  answer_attach = ap (λ (o : Outcome). o.answer) (replied w g (Attach word) a found)

  pub attach_refused : (a ≡ 0 → ⊥)
      → (a ≡ (reply w g (Attach word)).answer) × ((t ≡ (next w g (Attach word)).table) × (b ≡ (next w g (Attach word)).store))
  attach_refused d =
      let n = refused_next w g (Attach word) a found d in
      (answer_attach, (ap (λ (v : World). v.table) n, ap (λ (v : World). v.store) n))

  pub attach_done : a ≡ 0 → (u : Table) → u ≡ table_after t g attach → (b' : List ℕ) → b' ≡ cleared b (wipe (owned g) (slots_of t) b)
      → (a ≡ (reply w g (Attach word)).answer) × ((u ≡ (next w g (Attach word)).table) × (b' ≡ (next w g (Attach word)).store))
  unfolding cleared store_after
  attach_done z u hu b' hb =
      let n = granted_next w g (Attach word) a found z in
      let p = first_passed (attach_checks (length b) g word) refl (sym e ∙ z) in
      (answer_attach, (hu ∙ ap (λ (v : World). v.table) n, hb ∙ rw p.0 refl ∙ ap (λ (v : World). v.store) n))

-- ---- data requests

module _ (t : Table) (g : ℕ) (r w : List ℕ) (a : ℕ) (e : a ≡ first_fail (admission t g r (length w))) where
  admitted : a ≡ first_fail (checks (bare t) g (Admit r w))
  unfolding checks checks_of
  admitted = e

  module _ (w' : List ℕ) (hw : w' ≡ data_bytes w a) where
    pub admit_refused : (a ≡ 0 → ⊥)
        → (a ≡ (reply (bare t) g (Admit r w)).answer) × ((no_job ≡ (reply (bare t) g (Admit r w)).job) × (w' ≡ (reply (bare t) g (Admit r w)).writable))
    unfolding outcome
    admit_refused d = rw (← replied (bare t) g (Admit r w) a admitted, ne_eqb a ok d) (refl, (refl, hw))

    pub admit_done : a ≡ 0 → (n op : ℕ) → n ≡ le64 r 8 → op ≡ le32 r 0
        → (a ≡ (reply (bare t) g (Admit r w)).answer)
        × ((record { guest = g; number = n; opcode = op } ≡ (reply (bare t) g (Admit r w)).job) × (w' ≡ (reply (bare t) g (Admit r w)).writable))
    unfolding outcome
    admit_done z n op hn ho = rw (← replied (bare t) g (Admit r w) a admitted, eq-eqb a ok z) (refl, (rw (hn, ho) refl, hw))

  module _ (f : Field) where
    parted : a ≡ first_fail (checks (bare t) g (Part f r w))
    unfolding checks checks_of
    parted = e

    pub part_refused : (a ≡ 0 → ⊥) → [] ≡ (reply (bare t) g (Part f r w)).bytes
    unfolding outcome
    part_refused d = rw (← replied (bare t) g (Part f r w) a parted, ne_eqb a ok d) refl

    pub part_done : a ≡ 0 → (p : List ℕ) → p ≡ part_of f r → p ≡ (reply (bare t) g (Part f r w)).bytes
    unfolding outcome
    part_done z p h = rw (← replied (bare t) g (Part f r w) a parted, eq-eqb a ok z) h

-- ---- key fetch

-- one that passes names a live session
pub fetch_alive : (store : ℕ) (here alive : Bool) → ok ≡ first_fail (key_checks store here alive) → alive ≡ true
fetch_alive store here alive e = holds_at (key_checks store here alive) 2 (first_passed (key_checks store here alive) refl (sym e))

module _ (t : Table) (b : List ℕ) (g n a : ℕ) (e : a ≡ first_fail (fetching t g n (length b))) where
  abbrev v : World
  v = world t b

  pub key_answered : a ≡ (reply v g (KeyAnswer n)).answer
  unfolding outcome checks checks_of
  key_answered = ap (λ (o : Outcome). o.answer) (replied v g (KeyAnswer n) a (e ∙ rw (find_bare v g n).0))

  fetched : a ≡ first_fail (checks v g (Key n))
  unfolding checks checks_of
  fetched = e ∙ rw (find_bare v g n).0

  pub key_refused : (a ≡ 0 → ⊥) → [] ≡ (reply v g (Key n)).bytes
  unfolding outcome
  key_refused d = rw (← replied v g (Key n) a fetched, ne_eqb a ok d) refl

  -- at and x are the place and the session that the fetch found
  pub key_done : a ≡ 0 → (at : ℕ) (x : Session) → (at ≡ live_at t g n) × (at < 128) → x ≡ session_in (find (bare t) g n)
      → (p : List ℕ) → p ≡ key_at b at x → p ≡ (reply v g (Key n)).bytes
  unfolding outcome
  key_done z at x hp hx p h =
      let passed = first_passed (fetching t g n (length b)) refl (sym e ∙ z) in
      let alive : ltb at 128 ≡ is_live (find (bare t) g n) = lt-ltb at 128 hp.1 ∙ sym (holds_at (fetching t g n (length b)) 2 passed) in
      rw (← replied v g (Key n) a fetched, eq-eqb a ok z) (h ∙ found_key t b g n at x hp.0 alive hx)

-- ---- finish

module _ (t : Table) (g op verdict : ℕ) (w : List ℕ) (a : ℕ) (here : Bool) (h : here ≡ present g (guest_at t g)) (e : a ≡ first_fail (finish_checks here (length w))) where
  finishing : a ≡ first_fail (checks (bare t) g (Finish op verdict w))
  unfolding checks checks_of
  finishing = e ∙ ap (λ (x : Bool). first_fail (finish_checks x (length w))) h

  pub finish_refused : (a ≡ 0 → ⊥) → (a ≡ (reply (bare t) g (Finish op verdict w)).answer) × (w ≡ (reply (bare t) g (Finish op verdict w)).writable)
  unfolding outcome
  finish_refused d = rw (← replied (bare t) g (Finish op verdict w) a finishing, ne_eqb a ok d) (refl, refl)

  pub finish_done : a ≡ 0 → (s : ℕ) (w' : List ℕ) → s ≡ status op verdict → w' ≡ data_outcome w s
      → (s ≡ (reply (bare t) g (Finish op verdict w)).answer) × (w' ≡ (reply (bare t) g (Finish op verdict w)).writable)
  unfolding outcome
  finish_done z s w' p q = rw (← replied (bare t) g (Finish op verdict w) a finishing, eq-eqb a ok z, ← p) (refl, q)
