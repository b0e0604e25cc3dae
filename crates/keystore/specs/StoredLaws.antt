-- Laws of what the functions of the key store leave, one for each way out of them.
-- Assumes nothing.
use Rattle.std.specs.Prelude.{ℕ, zero, suc, ◌+◌, ◌-◌, ◌*◌, ◌≤◌, ◌<◌, min, ◌≡◌, refl, ◌⊎◌, Bool, true, false, cond, List, [], ◌∷◌, ◌++◌, eqb, ltb, length, get_or, take, drop, replicate}
use Rattle.std.proofs.Common.{inl, inr, sym, ap, ◌∙◌, arith, take_all}
use Rattle.std.proofs.Math.Option.{Option, none, some}
use Rattle.std.proofs.Math.Nat.{sub-zero, suc-sub-suc}
use borrow.Author.Tests.{eq-eqb, ne_eqb, lt-ltb, le-ltb}
use Rattle.lists.specs.Test.{same, both_ways, false_true, and_false}
use Rattle.lists.specs.Splice.{splice, splice_fits, splice_then}
use Rattle.model.specs.declared.Session.{Session}
use Rattle.model.specs.declared.Table.{Table}
use Rattle.model.specs.Bytes.{part, padded}
use Rattle.model.specs.Session.{World, Entry, free, slot_of, place_of, marked, slots_of, zeros, key_area, key_start, key_len}
use Rattle.model.specs.View.{sized, owned, find, live_at, is_live, session_in}
use Rattle.model.specs.Act.{with_area, wipe}
use Rattle.model.specs.Data.{key_bytes}
use Rattle.model.specs.Device.{world, bare}
use Rattle.laws.specs.Areas.{length_padded, length_key_area, wipe_more}
use Rattle.laws.specs.Slots.{place_at_lem, slots_length}
use Rattle.laws.specs.Effect.{find_bare}
use Rattle.laws.specs.Found.{alive_accepted, key_found}
use Rattle.laws.specs.Bounds.{key_fits}
use Rattle.keystore.specs.Stored.{stored, cleared, key_at}

-- ---- keys with zeros behind them

pub padded_empty : (n : ℕ) → padded n [] ≡ replicate n 0
unfolding padded
padded_empty zero = refl
padded_empty (suc n) = ap (λ (l : List ℕ). 0 ∷ l) (padded_empty n)

-- m bytes of the key, all or as many as there is room for, and zeros behind them
padded_front : (n m : ℕ) (k : List ℕ) → m ≤ n → m ≤ length k → (m < n → m ≡ length k) → take m k ++ replicate (n - m) 0 ≡ padded n k
unfolding padded
padded_front zero zero k h l e = refl
padded_front (suc n) zero [] h l e = rw sub-zero (sym (padded_empty (suc n)))
padded_front (suc n) zero (x ∷ k) h l e = absurd (omega (arith, e (omega arith)))
padded_front zero (suc m) k h l e = absurd (omega arith)
padded_front (suc n) (suc m) [] h l e = absurd (omega arith)
padded_front (suc n) (suc m) (x ∷ k) h l e =
    ap (λ (r : List ℕ). x ∷ r) (rw suc-sub-suc (padded_front n m k (omega arith) (omega arith) (λ j. omega (arith, e (omega arith)))))

-- the same of what is found in front and behind
pub key_laid : (n m j : ℕ) (k f b : List ℕ) → m ≡ min (length k) n → f ≡ take m k → b ≡ replicate j 0 → j + m ≡ n → f ++ b ≡ padded n k
key_laid n m j k f b e x y z =
    let behind : j ≡ n - m = omega arith in
    rw (x, y, behind) (padded_front n m k (omega arith) (omega arith) (λ h. omega arith))

pub no_keys : key_area [] [] ≡ zeros
unfolding key_area padded
no_keys = refl

-- ---- one area

module _ (b : List ℕ) (i : ℕ) (a : List ℕ) where
  pub stored_unsized : (length b ≡ 16384 → ⊥) → b ≡ stored b i a
  unfolding stored
  stored_unsized h = rw (ne_eqb _ _ h)

  pub stored_past : 128 ≤ i → b ≡ stored b i a
  unfolding stored
  stored_past h = rw (le-ltb _ _ h, and_false (sized (length b)))

  pub stored_in : length b ≡ 16384 → i < 128 → stored b i a ≡ with_area b i a
  unfolding stored
  stored_in h k = rw (eq-eqb _ _ h, lt-ltb _ _ k)

-- a write of each half is a write of the area
pub put_halves : (b b₁ b₂ : List ℕ) (i : ℕ) (front back : List ℕ) → length b ≡ 16384 → i < 128
    → b₁ ≡ splice b (128 * i) (padded 64 front) → b₂ ≡ splice b₁ (128 * i + 64) (padded 64 back) → b₂ ≡ stored b i (key_area front back)
unfolding with_area key_area
put_halves b b₁ b₂ i front back h k e₁ e₂ =
    let a : List ℕ = padded 64 front ++ padded 64 back in
    let n : length (padded 64 front) ≡ 64 = length_padded 64 front in
    let m : length (padded 64 back) ≡ 64 = length_padded 64 back in
    let l : length a ≡ 128 = length_key_area front back in
    let all : b₂ ≡ splice b (128 * i) a = splice_then b b₁ b₂ (128 * i) (128 * i + 64) (padded 64 front) (padded 64 back) (omega arith) (omega arith) e₁ e₂ in
    all
    ∙ splice_fits b (128 * i) a (omega arith)
    ∙ ap (λ (j : ℕ). take (128 * i) b ++ (a ++ drop (128 * i + j) b)) l
    ∙ sym (stored_in b i a h k)

-- ---- the areas of one guest

module _ (t : Table) (n : length t.slots ≡ 128) (g : ℕ) (b : List ℕ) where
  kept : (q : Bool) → cond q b b ≡ b
  kept q = both_ways (λ (l : List ℕ). l ≡ b) q b b refl refl

  cleared_in : (l : List ℕ) → length b ≡ 16384 → cleared b l ≡ l
  unfolding cleared
  cleared_in l k = rw (eq-eqb _ _ k)

  cleared_unsized : (l : List ℕ) → (length b ≡ 16384 → ⊥) → cleared b l ≡ b
  unfolding cleared
  cleared_unsized l k = rw (ne_eqb _ _ k)

  -- a loop over the slots: none seen
  pub clear_none : b ≡ cleared b (wipe (owned g) [] b)
  unfolding cleared wipe
  clear_none = sym (kept (sized (length b)))

  -- one more; cur is the store that it has, out what it then has, and held the mark that it found
  pub clear_more : (i : ℕ) (held : Bool) (cur out : List ℕ) → i < 128 → length cur ≡ length b
      → cur ≡ cleared b (wipe (owned g) (take i (slots_of t)) b)
      → held ≡ marked t.occupied i
      → out ≡ cond (owned g (place_of held (get_or t.slots i (slot_of free)))) (stored cur i zeros) cur
      → out ≡ cleared b (wipe (owned g) (take (i + 1) (slots_of t)) b)
  clear_more i held cur out h m e d f = go (same (length b) 16384)
    where
      go : (length b ≡ 16384) ⊎ (length b ≡ 16384 → ⊥) → out ≡ cleared b (wipe (owned g) (take (i + 1) (slots_of t)) b)
      go (inl k) =
          let s : length (slots_of t) ≡ 128 = slots_length t n in
          wipe_more (owned g) (slots_of t) b cur out i free (omega arith) (omega arith) (e ∙ cleared_in _ k)
          (rw (place_at_lem t n i, ← d, ← stored_in cur i zeros (m ∙ k) h) f)
          ∙ sym (cleared_in _ k)
      go (inr k) =
          let c : cur ≡ b = e ∙ cleared_unsized _ k in
          f
          ∙ ap (λ (l : List ℕ). cond (owned g (place_of held (get_or t.slots i (slot_of free)))) l cur) (sym (stored_unsized cur i zeros (λ j. k (sym m ∙ j))))
          ∙ both_ways (λ (l : List ℕ). l ≡ cur) (owned g (place_of held (get_or t.slots i (slot_of free)))) cur cur refl refl
          ∙ c
          ∙ sym (cleared_unsized _ k)

  -- all of them
  pub clear_done : (i : ℕ) (cur : List ℕ) → 128 ≤ i → cur ≡ cleared b (wipe (owned g) (take i (slots_of t)) b) → cur ≡ cleared b (wipe (owned g) (slots_of t) b)
  clear_done i cur h e =
      let s : length (slots_of t) ≡ 128 = slots_length t n in
      rw (take_all i (slots_of t) (omega arith)) at e

-- ---- the key of a session

pub key_start_le : (service : ℕ) → key_start service ≤ 64
unfolding key_start
key_start_le service = both_ways (λ (n : ℕ). n ≤ 64) (eqb service 2) 64 0 (omega arith) (omega arith)

-- the two ways out of `key_place`
pub no_place : (b : List ℕ) (i : ℕ) (x : Session) → 128 ≤ i → part b 0 0 ≡ key_at b i x
unfolding part key_at
no_place b i x h = rw (le-ltb _ _ h)

pub key_place : (b : List ℕ) (i start n : ℕ) (x : Session) → i < 128 → start ≡ key_start x.service → n ≡ key_len x → part b (128 * i + start) n ≡ key_at b i x
unfolding key_at
key_place b i start n x h e f = rw (lt-ltb _ _ h, ← e, ← f)

-- the key at the place that a search found is that of the live session, and empty where none is live
pub found_key : (t : Table) (b : List ℕ) (g n at : ℕ) (x : Session)
    → at ≡ live_at t g n → ltb at 128 ≡ is_live (find (bare t) g n) → x ≡ session_in (find (bare t) g n) → key_at b at x ≡ key_bytes (find (world t b) g n)
unfolding key_at
found_key t b g n at x hp ha hx = go (ltb at 128) (sym (ha ∙ sym (find_bare v g n).0))
  where
    v : World
    v = world t b

    y : x ≡ session_in (find v g n)
    y = hx ∙ sym (find_bare v g n).1

    none_live : (o : Option Entry) → is_live o ≡ false → [] ≡ key_bytes o
    none_live none l = refl
    none_live (some e) l = absurd (false_true (sym l))

    go : (live : Bool) → is_live (find v g n) ≡ live → cond live (part b (128 * at + key_start x.service) (key_len x)) [] ≡ key_bytes (find v g n)
    go true l = key_found v g n at x hp l y (key_fits t.config x (rw y (alive_accepted v g n l)))
    go false l = none_live (find v g n) l
