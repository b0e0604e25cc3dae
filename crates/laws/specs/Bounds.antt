-- What the rules per algorithm allow is small: of a rule, a test over it computed once, and one law. So the session of a create that passes step 4
-- fits a slot, and the key of one that can be fits its area.
-- Assumes nothing.
use Rattle.std.specs.Prelude.{◌≡◌, refl, Bool, true, false, cond, not, ◌&&◌, ◌||◌, List, [], ◌∷◌, ℕ, ◌+◌, ◌≤◌, ◌<◌, eqb, leb}
use Rattle.std.proofs.Common.{sym, ◌∙◌, arith, leb-true, eqb-true}
use Rattle.lists.specs.Test.{false_true, and_true, or_true, implied, both_ways}
use Rattle.model.specs.declared.Config.{Config}
use Rattle.model.specs.declared.Session.{Session}
use Rattle.model.specs.Lens.{Lens, one_of, span, multiple, at_least, any, Rule, or_in, and_allowed, or_ruled, ruled}
use Rattle.model.specs.Algorithm.{cipher, hash, mac, aead, ciphers, hashes, macs, aeads}
use Rattle.model.specs.Algorithm.{cipher_keys, mac_keys, aead_keys, hash_results, cmac_results, aead_tags, known, key_ok, result_ok}
use Rattle.model.specs.Session.{key_start, key_len, bit, mask_of, offers, directed, direction_ok, key_limit, lengths_ok, accepts}
use Rattle.model.specs.Control.{service, asked}

-- ---- of a list and of a rule

-- every number of the list is at most k
unfoldable all_up_to : ℕ → List ℕ → Bool
all_up_to k [] = true
all_up_to k (x ∷ r) = leb x k && all_up_to k r

-- every length that is allowed is at most k
unfoldable up_to : ℕ → Lens → Bool
up_to k (one_of l) = all_up_to k l
up_to k (span low high) = leb high k
up_to k (multiple m) = false
up_to k (at_least m) = false
up_to k any = false

unfoldable rule_up_to : ℕ → Rule → Bool
rule_up_to k [] = true
rule_up_to k ((a, l) ∷ r) = up_to k l && rule_up_to k r

or_in_small : (k n : ℕ) (l : List ℕ) (b : Bool) → all_up_to k l ≡ true → (b ≡ true → n ≤ k) → or_in b n l ≡ true → n ≤ k
unfolding all_up_to
or_in_small k n [] b h q e = q e
or_in_small k n (x ∷ r) b h q e =
    let (here, rest) = and_true (leb x k) (all_up_to k r) h in
    or_in_small k n r (b || eqb n x) rest (λ t. or_true b (eqb n x) t q (λ s. omega (arith, eqb-true n x s, leb-true x k here))) e

in_small : (k n : ℕ) (l : List ℕ) → all_up_to k l ≡ true → or_in false n l ≡ true → n ≤ k
in_small k n l h = or_in_small k n l false h (λ s. absurd (false_true s))

allowed_small : (k n : ℕ) (l : Lens) (b : Bool) → up_to k l ≡ true → and_allowed b l n ≡ true → n ≤ k
unfolding up_to
allowed_small k n (one_of l) b h e = in_small k n l h (and_true b (or_in false n l) e).1
allowed_small k n (span low high) b h e =
    omega (arith, leb-true high k h, leb-true n high (and_true (leb low n) (leb n high) (and_true b (leb low n && leb n high) e).1).1)
allowed_small k n (multiple m) b h e = absurd (false_true h)
allowed_small k n (at_least m) b h e = absurd (false_true h)
allowed_small k n any b h e = absurd (false_true h)

or_ruled_small : (k n algo : ℕ) (t : Rule) (b : Bool) → rule_up_to k t ≡ true → (b ≡ true → n ≤ k) → or_ruled b t algo n ≡ true → n ≤ k
unfolding rule_up_to
or_ruled_small k n algo [] b h q e = q e
or_ruled_small k n algo ((a, l) ∷ r) b h q e =
    let (here, rest) = and_true (up_to k l) (rule_up_to k r) h in
    or_ruled_small k n algo r (b || and_allowed (eqb algo a) l n) rest
    (λ t. or_true b (and_allowed (eqb algo a) l n) t q (allowed_small k n l (eqb algo a) here))
    e

ruled_small : (k n algo : ℕ) (t : Rule) → rule_up_to k t ≡ true → ruled t algo n ≡ true → n ≤ k
ruled_small k n algo t h = or_ruled_small k n algo t false h (λ s. absurd (false_true s))

-- ---- by service

-- one of four tests holds
by_four : {P : Type 0} (a b c d : Bool) → a || b || c || d ≡ true → (a ≡ true → P) → (b ≡ true → P) → (c ≡ true → P) → (d ≡ true → P) → P
by_four a b c d e p q r s = or_true (a || b || c) d e (λ t. or_true (a || b) c t (λ u. or_true a b u p q) r) s

known_small : (s a : ℕ) → known s a ≡ true → (s ≤ 3) × (a ≤ 26)
unfolding known all_up_to
known_small s a e =
    by_four (eqb s cipher && or_in false a ciphers) (eqb s hash && or_in false a hashes) (eqb s mac && or_in false a macs) (eqb s aead && or_in false a aeads) e
    (one cipher ciphers (omega arith) refl)
    (one hash hashes (omega arith) refl)
    (one mac macs (omega arith) refl)
    (one aead aeads (omega arith) refl)
  where
    one : (k : ℕ) (l : List ℕ) → k ≤ 3 → all_up_to 26 l ≡ true → eqb s k && or_in false a l ≡ true → (s ≤ 3) × (a ≤ 26)
    one k l b h t = let (f, g) = and_true (eqb s k) (or_in false a l) t in (omega (arith, eqb-true s k f), in_small 26 a l h g)

-- what a rule allows has at most 64 bytes, whatever is tested beside it
one_rule : (t : Bool) (l : Rule) (a n : ℕ) → rule_up_to 64 l ≡ true → t && ruled l a n ≡ true → n ≤ 64
one_rule t l a n h e = ruled_small 64 n a l h (and_true t (ruled l a n) e).1

key_small : (s a n : ℕ) → key_ok s a n ≡ true → (eqb s hash ≡ true → n ≤ 64) → n ≤ 64
unfolding key_ok all_up_to up_to rule_up_to
key_small s a n e h =
    by_four (eqb s cipher && ruled cipher_keys a n) (eqb s hash) (eqb s mac && ruled mac_keys a n) (eqb s aead && ruled aead_keys a n) e
    (one_rule (eqb s cipher) cipher_keys a n refl)
    h
    (one_rule (eqb s mac) mac_keys a n refl)
    (one_rule (eqb s aead) aead_keys a n refl)

result_small : (s a n : ℕ) → result_ok s a n ≡ true → (eqb s cipher ≡ true → n ≤ 64) → n ≤ 64
unfolding result_ok all_up_to up_to rule_up_to
result_small s a n e h =
    by_four (eqb s cipher) (eqb s hash && ruled hash_results a n) (eqb s mac && (ruled hash_results a n || ruled cmac_results a n)) (eqb s aead && ruled aead_tags a n) e
    h
    (one_rule (eqb s hash) hash_results a n refl)
    (λ t. or_true (ruled hash_results a n) (ruled cmac_results a n) (and_true (eqb s mac) (ruled hash_results a n || ruled cmac_results a n) t).1
    (ruled_small 64 n a hash_results refl)
    (ruled_small 64 n a cmac_results refl))
    (one_rule (eqb s aead) aead_tags a n refl)

direction_small : (x : Session) → direction_ok x ≡ true → (not (directed x.service) ≡ true → x.direction ≤ 2) → x.direction ≤ 2
unfolding direction_ok
direction_small x e h =
    by_four false (not (directed x.service)) (eqb x.direction 1) (eqb x.direction 2) e
    (λ t. absurd (false_true t))
    h
    (λ t. omega (arith, eqb-true x.direction 1 t))
    (λ t. omega (arith, eqb-true x.direction 2 t))

-- ---- of a session

-- each field that a slot keeps in one byte is below 256
pub record Small (x : Session) : Type 0 where
  pub service : x.service < 256
  pub algo : x.algo < 256
  pub direction : x.direction < 256
  pub keylen : x.keylen < 256
  pub result : x.result < 256

-- n is 0 where the test holds
abbrev ZeroIf : Bool → ℕ → Type 0
ZeroIf t n = not t || eqb n 0 ≡ true

zero_small : (t : Bool) (n k : ℕ) → ZeroIf t n → t ≡ true → n ≤ k
zero_small t n k h e = omega (arith, eqb-true n 0 (implied t (eqb n 0) h e))

-- a field that the service does not have is 0: a hash has no key, a cipher no result, neither a hash nor a MAC a direction
abbrev Blank : Session → Type 0
Blank x = ZeroIf (eqb x.service hash) x.keylen × ZeroIf (eqb x.service cipher) x.result × ZeroIf (not (directed x.service)) x.direction

asked_blank : (r : List ℕ) → Blank (asked r)
unfolding asked
asked_blank r =
    both_ways Blank (eqb (service r) cipher) _ _ (refl, refl, refl)
    (both_ways Blank (eqb (service r) hash) _ _ (refl, refl, refl) (both_ways Blank (eqb (service r) mac) _ _ (refl, refl, refl) (refl, refl, refl)))

-- what the checks say of the algorithm, and of the key and the result
offers_known : (k : Config) (s a : ℕ) → offers k s a ≡ true → known s a ≡ true
unfolding offers
offers_known k s a e = (and_true (known s a) (bit k.services s) (and_true (known s a && bit k.services s) (bit (mask_of k s) a) e).0).0

lengths_ok_lem : (k : Config) (x : Session) → lengths_ok k x ≡ true
    → (key_ok x.service x.algo x.keylen ≡ true) × (result_ok x.service x.algo x.result ≡ true)
unfolding lengths_ok
lengths_ok_lem k x e =
    let key : Bool = key_ok x.service x.algo x.keylen in
    let limit : Bool = eqb x.service hash || leb x.keylen (key_limit k x.service) in
    let (both, result) = and_true (key && limit) (result_ok x.service x.algo x.result) e in
    ((and_true key limit both).0, result)

blank_small : (k : Config) (x : Session) → Blank x → offers k x.service x.algo ≡ true → direction_ok x ≡ true → lengths_ok k x ≡ true → Small x
blank_small k x (nokey, noresult, nodirection) o d l =
    let s : ℕ = x.service in
    let (key, result) = lengths_ok_lem k x l in
    let known = known_small s x.algo (offers_known k s x.algo o) in
    let d2 = direction_small x d (zero_small (not (directed s)) x.direction 2 nodirection) in
    let k64 = key_small s x.algo x.keylen key (zero_small (eqb s hash) x.keylen 64 nokey) in
    let r64 = result_small s x.algo x.result result (zero_small (eqb s cipher) x.result 64 noresult) in
    record {
      service = omega (arith, known.0);
      algo = omega (arith, known.1);
      direction = omega arith;
      keylen = omega arith;
      result = omega arith;
    }

pub asked_small : (k : Config) (r : List ℕ)
    → offers k (asked r).service (asked r).algo ≡ true
    → direction_ok (asked r) ≡ true
    → lengths_ok k (asked r) ≡ true
    → Small (asked r)
asked_small k r = blank_small k (asked r) (asked_blank r)

-- a key stays within its area
pub key_fits : (k : Config) (x : Session) → accepts k x ≡ true → key_start x.service + key_len x ≤ 128
unfolding accepts key_start key_len
key_fits k x e =
    let l : lengths_ok k x ≡ true = (and_true (offers k x.service x.algo && direction_ok x) (lengths_ok k x) e).1 in
    let start = both_ways (λ n. n ≤ 64) (eqb x.service mac) 64 0 (omega arith) (omega arith) in
    omega (arith, go (eqb x.service hash) refl (lengths_ok_lem k x l).0)
  where
    go : (t : Bool) → eqb x.service hash ≡ t → key_ok x.service x.algo x.keylen ≡ true → cond t 0 x.keylen ≤ 64
    go true h key = omega arith
    go false h key = key_small x.service x.algo x.keylen key (λ t. absurd (false_true (sym h ∙ t)))
