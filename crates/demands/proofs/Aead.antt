-- Tickets K4 and K12: what an accepted AEAD request reads and writes, and when one is accepted.
-- Assumes nothing.
use Rattle.std.specs.Prelude.{◌≡◌, Bool, true, false, not, ◌&&◌, ◌||◌, List, [], ◌∷◌, ◌++◌, ℕ, ◌+◌, ◌-◌, ◌^◌, ◌≤◌, ◌<◌, eqb, leb, ltb, length, take}
use Rattle.std.proofs.Math.Path.{refl, ap}
use Rattle.std.proofs.Common.{sym, ◌∙◌, subst, arith}
use Rattle.std.proofs.Math.Bool.{cond}
use borrow.Author.Tests.{eqb-true, eq-eqb, leb-true, ltb-true}
use Rattle.lists.specs.Test.{false_true, and_true, implied}
use Rattle.model.specs.declared.Lengths.{Lengths}
use Rattle.model.specs.declared.Session.{Session}
use Rattle.model.specs.Answer.{ok, err, Check}
use Rattle.model.specs.Algorithm.{cipher, aead, ccm, encrypt, decrypt, iv_ok, source_ok, decrypted_ok, written_ok, payload, payload_ok}
use Rattle.model.specs.Session.{World, slots_of, directed}
use Rattle.model.specs.View.{live_at}
use Rattle.model.specs.Control.{opcode, service_of, service}
use Rattle.model.specs.Data.{number, direction_of, lengths, fits}
use Rattle.model.specs.Device.{Admit, checks, reply}
use Rattle.laws.specs.Judge.{Passed, holds_at, passed_both}
use Rattle.demands.specs.Statement.{named, ccm_bound, AllElse, AeadLengths}
use Rattle.demands.proofs.Demand2.{demand2, checks_by, admit_checks, accepted}

-- the rules on what is written and on the payload, of lengths that fit a session
rules_of : (x : Session) (n : Lengths) → fits x n ≡ true → (written_ok x.service x.direction n ≡ true) × (payload_ok x.service x.algo x.direction n ≡ true)
unfolding fits
rules_of x n e =
    let first = iv_ok x.service x.algo n.iv && source_ok x.service x.algo n.source in
    let written = written_ok x.service x.direction n in
    let payload = payload_ok x.service x.algo x.direction n in
    let aad = not (eqb x.service aead) || eqb n.aad x.aad in
    let result = eqb x.service cipher || eqb n.result x.result in
    let both = and_true (first && written) payload (and_true (first && written && payload) aad (and_true (first && written && payload && aad) result e).0).0 in
    ((and_true first written both.0).1, both.1)

-- of an AEAD that decrypts, and of one that encrypts
decrypted_of : (n : Lengths) → written_ok aead decrypt n ≡ true → (n.result ≤ n.source) × (n.written ≡ n.source - n.result)
unfolding decrypted_ok written_ok
decrypted_of n e =
    let (tagged, written) = and_true (leb n.result n.source) (eqb n.written (n.source - n.result)) e in
    (leb-true n.result n.source tagged, eqb-true n.written (n.source - n.result) written)

or_nothing : (b : Bool) → b || false ≡ b
or_nothing true = refl
or_nothing false = refl

encrypted_as : (n : Lengths) → written_ok aead encrypt n ≡ eqb n.written (n.source + n.result)
unfolding written_ok
encrypted_as n = or_nothing (eqb n.written (n.source + n.result))

-- of CCM
below_of : (direction : ℕ) (n : Lengths) → payload_ok aead ccm direction n ≡ true → payload direction n < 256 ^ (15 - n.iv)
unfolding payload_ok
below_of direction n e = ltb-true (payload direction n) (256 ^ (15 - n.iv)) e

-- the lengths of an AEAD fit exactly if these two rules hold, where the others are right
fits_aead : (x : Session) (n : Lengths) (d : ℕ) → x.service ≡ aead → x.direction ≡ d → iv_ok aead x.algo n.iv ≡ true → n.aad ≡ x.aad → n.result ≡ x.result
    → fits x n ≡ written_ok aead d n && payload_ok aead x.algo d n
unfolding fits source_ok
fits_aead x n d s e iv aad result =
    rw (s, e, iv, eq-eqb n.aad x.aad aad, eq-eqb n.result x.result result) (and_true_twice (written_ok aead d n && payload_ok aead x.algo d n))
  where
    and_true_twice : (b : Bool) → b && true && true ≡ b
    and_true_twice true = refl
    and_true_twice false = refl

-- ---- data requests

module _ (w : World) (g : ℕ) (r b : List ℕ) where
  -- the session that is named, and the lengths
  abbrev x : Session
  x = (named w.table g r).session

  abbrev n : Lengths
  n = lengths r

  -- an accepted one of an AEAD operation keeps the rules of its direction
  keeps : (op : ℕ) → opcode r ≡ op → service_of op ≡ aead → (reply w g (Admit r b)).answer ≡ ok
      → (written_ok aead (direction_of op) n ≡ true) × (payload_ok aead x.algo (direction_of op) n ≡ true) × (length b ≡ n.written + 1)
  keeps op e s h =
      let a = (accepted w g r b).1 h in
      let serves : x.service ≡ aead = a.serves ∙ ap service_of e ∙ s in
      let directs : x.direction ≡ direction_of op = a.directs (rw (e, s)) ∙ ap direction_of e in
      let both = rules_of x n a.algorithm in
      (rw (← serves, ← directs) both.0, rw (← serves, ← directs) both.1, a.writable)

  below : (op : ℕ) → opcode r ≡ op → service_of op ≡ aead → x.algo ≡ ccm → (reply w g (Admit r b)).answer ≡ ok → payload (direction_of op) n < ccm_bound r
  below op e s a h = below_of (direction_of op) n (subst (λ (k : ℕ). payload_ok aead k (direction_of op) n ≡ true) a (keeps op e s h).1)

  -- the two rules of an operation's direction
  abbrev ruled : ℕ → Bool
  ruled op = written_ok aead (direction_of op) n && payload_ok aead x.algo (direction_of op) n

  -- of an AEAD operation the length rules are the last check, behind eleven
  last_check : (s : Bool) (op : ℕ) → opcode r ≡ op → service_of op ≡ aead → Passed (take 11 (checks_by w g r b s)) → AllElse w g r b
      → checks_by w g r b s ≡ take 11 (checks_by w g r b s) ++ (ruled op, err) ∷ []
  last_check false op e a p o = absurd (false_true (holds_at (take 11 (checks_by w g r b false)) 6 p))
  last_check true op e a p o =
      let first = take 11 (checks_by w g r b true) in
      let u = and_true (eqb x.service (service r)) (not (directed (service r)) || eqb x.direction (direction_of (opcode r))) (holds_at first 6 p) in
      let serves : x.service ≡ aead = eqb-true x.service (service r) u.0 ∙ ap service_of e ∙ a in
      let directs : x.direction ≡ direction_of op =
      eqb-true x.direction (direction_of (opcode r)) (implied (directed (service r)) (eqb x.direction (direction_of (opcode r))) u.1 (rw (e, a))) ∙ ap direction_of e in
      ap (λ (v : Bool). first ++ (v, err) ∷ []) (fits_aead x n (direction_of op) serves directs o.iv o.aad o.tag)

  -- so they decide the answer
  decided_by : (op : ℕ) → opcode r ≡ op → service_of op ≡ aead → AllElse w g r b → (reply w g (Admit r b)).answer ≡ cond (ruled op) ok err
  decided_by op e a o = go (ruled op) refl
    where
      found : Bool
      found = ltb (live_at w.table g (number r)) (length (slots_of w.table))

      cs : List Check
      cs = checks_by w g r b found

      passed : Passed (take 11 cs)
      passed = subst (λ c. Passed (take 11 c)) (admit_checks w g r b) o.before

      split : checks w g (Admit r b) ≡ take 11 cs ++ (ruled op, err) ∷ []
      split = admit_checks w g r b ∙ last_check found op e a passed o

      go : (v : Bool) → ruled op ≡ v → (reply w g (Admit r b)).answer ≡ cond v ok err
      go true h = (demand2 w g (Admit r b)).all (subst Passed (sym split) (passed_both (take 11 cs) ((ruled op, err) ∷ []) passed (h, tt)))
      go false h = (demand2 w g (Admit r b)).first (take 11 cs) [] err (split ∙ ap (λ (v : Bool). take 11 cs ++ (v, err) ∷ []) h) passed

  pub aead_lengths : AeadLengths w g r b
  unfolding decrypted_ok written_ok payload_ok
  aead_lengths = record {
    tagged = λ e h. omega (arith, (decrypted_of n (keeps 769 e refl h).0).0);
    decrypted = λ e h. let p = keeps 769 e refl h in omega (arith, p.2, (decrypted_of n p.0).1);
    encrypted = λ e h. let p = keeps 768 e refl h in omega (arith, p.2, eqb-true n.written (n.source + n.result) (sym (encrypted_as n) ∙ p.0));
    source_below = λ e a h. omega (arith, below 768 e refl a h);
    destination_below = λ e a h. omega (arith, below 769 e refl a h);
    encryption = λ e o. decided_by 768 e refl o ∙ ap (λ (v : Bool). cond (v && payload_ok aead x.algo encrypt n) ok err) (encrypted_as n);
    decryption = λ e o. decided_by 769 e refl o;
  }
