-- Laws of replay's definitions, for the proofs of the functions that walk a trace. Assumes nothing.
use Prim.Native.Nat.{ℕ, zero, suc, min, ◌+◌, ◌*◌, ◌-◌, ◌≤◌, ◌<◌}
use Rattle.std.specs.Prelude.{◌≡◌, not, ◌&&◌, ◌||◌, List, length, drop, Some}
use Rattle.std.proofs.Math.Path.{refl, sym, ap}
use Rattle.std.proofs.Common.{◌⊎◌, ◌∙◌, inl, inr, get_or-take, get_or-drop}
use Rattle.std.proofs.lemmas.Bool.{cases_lt}
use Rattle.std.proofs.Math.Bool.{true}
use native.Mathlib.Omega.{arith}
use Rattle.std.proofs.Math.Dec.{leb, eqb}
use borrow.Author.Tests.{leb-true, eqb-true}
use Rattle.std.proofs.lemmas.Bool.Decides.{nat_tests}
use Rattle.std.proofs.lemmas.Option.{cond_some}
use Rattle.lists.specs.Test.{and_true}
use Rattle.wire.specs.Read.{part_past}
use Rattle.model.specs.Bytes.{byte, part}
use Rattle.trace.specs.declared.Record.{Record}
use Rattle.trace.specs.declared.Records.{Records}
use Rattle.trace.specs.Replay.{le16, record_at, record_end, fits, walks, trailer, records_of, good_trace, opened}

-- ---- reads of a part

-- a byte of a part is the byte that far behind its start
pub byte_part : (s : List ℕ) (at n k i : ℕ) → k < n → i ≡ at + k → byte (part s at n) k ≡ byte s i
unfolding part
byte_part s at n k i h e = get_or-take n (drop at s) k 0 h ∙ get_or-drop at s k 0 ∙ sym (ap (byte s) e)

pub le16_part : (s : List ℕ) (at n k i : ℕ) → k + 1 < n → i ≡ at + k → le16 (part s at n) k ≡ le16 s i
unfolding le16
le16_part s at n k i h e = omega (arith, byte_part s at n k i (omega arith) e, byte_part s at n (k + 1) (i + 1) h (omega arith))

-- the longest place stands for each past it: both are past the end
pub part_cut_off : (s : List ℕ) (at i n m : ℕ) → length s ≤ 18446744073709551615 → i ≡ min (at + 6) 18446744073709551615 → m ≡ n
    → part s i m ≡ part s (at + 6) n
part_cut_off s at i n m h e f = go (cases_lt 18446744073709551615 (at + 6))
  where
    go : (18446744073709551615 < at + 6) ⊎ (at + 6 ≤ 18446744073709551615) → part s i m ≡ part s (at + 6) n
    go (inl k) = sym (part_past s i m (omega arith)) ∙ part_past s (at + 6) n (omega arith)
    go (inr k) = let g : i ≡ at + 6 = omega arith in rw (f, g) refl

-- ---- one record

module _ (r : Record) (at end : ℕ) where
  -- one that fits ends at the end or before
  pub fits_ends : fits r at end ≡ true → at + 6 + r.readable ≤ end
  unfolding fits
  fits_ends e =
      leb-true _ _ (and_true _ (leb r.kind 2) (and_true _ (not (eqb r.kind 0) || eqb r.readable 4) (and_true _ (leb r.writable 4096) e).0).0).0

-- ---- the walk

-- a record with `done` of n before it, and then the rest
pub walks_step : (s : List ℕ) (end at n done after : ℕ) (r : Record) → r ≡ record_at s at → done < n → after ≡ at + 6 + r.readable
    → walks s end at (n - done) ≡ (fits r at end && walks s end after (n - (done + 1)))
unfolding walks
walks_step s end at n done after r here h e =
    let step : n - done ≡ suc (n - (done + 1)) = omega arith in
    let place : record_end s at ≡ after = ap (λ (x : Record). at + 6 + x.readable) (sym here) ∙ sym e in
    rw (step, place, here) refl

-- no record left
pub walks_none : (s : List ℕ) (end at n done : ℕ) → n ≤ done → walks s end at (n - done) ≡ eqb at end
unfolding walks
walks_none s end at n done h = let e : n - done ≡ 0 = omega arith in ap (walks s end at) e

-- one record of a walk that ends well
pub walks_more : (s : List ℕ) (end at n done after : ℕ) (r : Record) → r ≡ record_at s at → done < n → after ≡ at + 6 + r.readable
    → walks s end at (n - done) ≡ true → (after ≤ end) × (walks s end after (n - (done + 1)) ≡ true)
walks_more s end at n done after r here h e well =
    let both = and_true (fits r at end) _ (sym (walks_step s end at n done after r here h e) ∙ well) in
    (omega (arith, fits_ends r at end both.0), both.1)

-- ---- a good trace

-- each record takes at least 6 bytes
walks_room : (s : List ℕ) (n at end : ℕ) → walks s end at n ≡ true → at + 6 * n ≤ end
unfolding walks
walks_room s zero at end e = omega (arith, eqb-true at end e)
walks_room s (suc n) at end e =
    let both = and_true (fits (record_at s at) at end) _ e in
    omega (arith, fits_ends (record_at s at) at end both.0, walks_room s n (record_end s at) end both.1)

-- what is opened: a good trace, its records, that they end at the trailer, and that they are at most as many as fit
pub opened_good : (s : List ℕ) (x : Records) → Some x ≡ opened s
    → (good_trace s ≡ true) × (records_of s ≡ x) × (trailer s ≤ 65528)
    × (walks s (trailer s) (records_of s).first (records_of s).count ≡ true) × ((records_of s).count ≤ 10921)
unfolding opened good_trace
opened_good s x e =
    let found = cond_some (good_trace s) (records_of s) x (sym e) in
    let short : trailer s ≤ 65528 = grind (arith, nat_tests) in
    let well : walks s (trailer s) (records_of s).first (records_of s).count ≡ true = grind (arith, nat_tests) in
    (found.0, found.1, short, well, omega (arith, walks_room s (records_of s).count (records_of s).first (trailer s) well))
