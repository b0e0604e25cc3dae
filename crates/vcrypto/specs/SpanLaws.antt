-- The spans that the code gives are those of the bytes handed on.
-- Assumes nothing.
use Rattle.std.specs.Prelude.{ℕ, suc, ◌<◌, ◌≡◌, refl, Bool, true, false, cond, List, [], ◌∷◌, ltb, length}
use Rattle.std.proofs.Common.{sym, ap, ◌∙◌, arith, ne_eqb, lt-ltb}
use Rattle.std.proofs.Math.Option.{Option, none, some}
use Rattle.lists.specs.Test.{false_true}
use Rattle.model.specs.declared.Field.{Field}
use Rattle.model.specs.declared.Session.{Session}
use Rattle.model.specs.declared.Span.{Span}
use Rattle.model.specs.declared.Table.{Table}
use Rattle.model.specs.Bytes.{part}
use Rattle.model.specs.Answer.{granted, first_fail}
use Rattle.model.specs.Session.{Entry}
use Rattle.model.specs.View.{find, live_at, is_live, session_in}
use Rattle.model.specs.Data.{part_of, key_bytes}
use Rattle.model.specs.Device.{Part, Key, outcome, checks, reply, world, bare}
use Rattle.laws.specs.Effect.{find_bare}
use Rattle.wire.specs.Read.{part_again, part_inside}
use Rattle.keystore.specs.Stored.{key_at}
use Rattle.keystore.specs.StoredLaws.{found_key}
use Rattle.vcrypto.specs.Span.{Located, span_of}

-- ---- the span of a part that is handed on, or of no bytes where a call is refused

none_located : (b : List ℕ) (s : ℕ) → Located b (span_of s 0) []
unfolding span_of part
none_located b s = record { bytes = refl; inside = omega arith; empty = λ e. (refl, refl) }

part_located : (b x : List ℕ) (s k : ℕ) → x ≡ part b s k → Located b (span_of s (length x)) x
unfolding span_of
part_located b [] s k e = none_located b s
part_located b (y ∷ x) s k e =
    let n = ap length e in
    rw (ne_eqb (suc (length x)) 0 (omega arith)) (record {
      bytes = ap (λ (z : List ℕ). part b s (length z)) e ∙ part_again b s k ∙ sym e;
      inside = omega (arith, part_inside b s k (omega arith));
      empty = λ h. absurd (omega (arith, ap length h));
    })

-- x is what is handed on: y where the call is granted, and y the part from s; q is the span that the code gives
handed_located : (b x y : List ℕ) (s k : ℕ) (q : Span) (t : Bool) → x ≡ cond t y [] → part b s k ≡ y → q ≡ span_of s (length x) → Located b q (cond t y [])
handed_located b x y s k q true e h f = rw (f, e) (part_located b y s k (sym h))
handed_located b x y s k q false e h f = rw (f, e) (none_located b s)

pub field_located : (t : Table) (g : ℕ) (f : Field) (r w x : List ℕ) (p q : Span)
    → x ≡ (reply (bare t) g (Part f r w)).bytes → part r p.start p.size ≡ part_of f r → q ≡ span_of p.start (length x)
    → Located r q (reply (bare t) g (Part f r w)).bytes
unfolding reply outcome
field_located t g f r w x p q e h d = handed_located r x (part_of f r) p.start p.size q (granted (first_fail (checks (bare t) g (Part f r w)))) e h d

-- bytes that are none have no place
pub empty_located : (b x y : List ℕ) (q : Span) → x ≡ y → length x ≡ 0 → q ≡ span_of 0 0 → Located b q y
empty_located b [] y q e n h = rw (← e, h) (none_located b 0)
empty_located b (z ∷ x) y q e n h = absurd (omega arith)

module _ (t : Table) (b : List ℕ) (g n : ℕ) (x : List ℕ) (q : Span) (e : x ≡ (reply (world t b) g (Key n)).bytes) where
  abbrev hands : Bool
  hands = granted (first_fail (checks (world t b) g (Key n)))

  -- the span of the key of the session that was found
  pub key_located : (at : ℕ) (s : Session) (p : Span) → at ≡ live_at t g n → at < 128 → true ≡ is_live (find (bare t) g n) → s ≡ session_in (find (bare t) g n)
      → part b p.start p.size ≡ key_at b at s → q ≡ span_of p.start (length x) → Located b q (reply (world t b) g (Key n)).bytes
  unfolding reply outcome
  key_located at s p hp i ha hx h d =
      let alive : ltb at 128 ≡ is_live (find (bare t) g n) = lt-ltb at 128 i ∙ ha in
      handed_located b x (key_bytes (find (world t b) g n)) p.start p.size q hands e (h ∙ found_key t b g n at s hp alive hx) d

  -- and where none was found there is none
  pub no_key_located : false ≡ is_live (find (bare t) g n) → q ≡ span_of 0 0 → Located b q (reply (world t b) g (Key n)).bytes
  unfolding reply outcome
  no_key_located h d = nothing (find (world t b) g n) (h ∙ sym (find_bare (world t b) g n).0)
    where
      nothing : (o : Option Entry) → false ≡ is_live o → Located b q (cond hands (key_bytes o) [])
      nothing (some k) l = absurd (false_true l)
      nothing none l = rw d (go hands)
        where
          go : (h : Bool) → Located b (span_of 0 0) (cond h [] [])
          go true = none_located b 0
          go false = none_located b 0
