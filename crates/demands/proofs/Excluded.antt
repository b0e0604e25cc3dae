-- Paper 01, "How tight the promises are": the devices that it shuts out by name. Each law here is one that such a device would break.
-- Assumes nothing.
use Rattle.std.specs.Prelude.{◌≡◌, refl, Bool, true, false, cond, List, [], ◌∷◌, ℕ, ◌-◌, ◌<◌, length, get_or}
use Rattle.std.proofs.Common.{sym, ap, ◌∙◌, arith, eq-eqb, lt-ltb}
use Rattle.lists.specs.Seek.{count, count_map, count_none, All-every}
use Rattle.model.specs.Answer.{ok, bad_guest, first_fail}
use Rattle.model.specs.Session.{store_size, World, Place, free, slots_of, guest_at}
use Rattle.model.specs.View.{owned, holds}
use Rattle.model.specs.Act.{released, table_after}
use Rattle.model.specs.Setup.{set_up}
use Rattle.model.specs.Device.{Request, Attach, Control, Admit, outcome, checks_of, checks, reply, next}
use Rattle.model.specs.Calls.{Call, noted, past, run, WellFormed}
use Rattle.laws.proofs.Slots.{after_attach}
use Rattle.laws.specs.Effect.{granted_next}
use Rattle.demands.proofs.Demand1.{demand1}
use Rattle.demands.proofs.Demand3.{demand3}

-- ---- a device refusing every attach: it is granted to every guest up to 7, whatever the table

pub attach_granted : (w : World) (g : ℕ) → length w.store ≡ store_size → g < 8 → (reply w g (Attach 1)).answer ≡ ok
unfolding reply outcome checks checks_of first_fail
attach_granted w g e h = rw (eq-eqb (length w.store) store_size e, lt-ltb g 8 h)

-- ---- one fixed answer: guest 8 is told another

pub attach_refused : (w : World) → length w.store ≡ store_size → (reply w 8 (Attach 1)).answer ≡ bad_guest
unfolding reply outcome checks checks_of first_fail
attach_refused w e = rw (eq-eqb (length w.store) store_size e)

-- ---- one that writes nothing: the status of a refused data request reaches the buffer, unless it stood there

pub refusal_written : (w : World) (g : ℕ) (r b : List ℕ) → 0 < (reply w g (Admit r b)).answer → (reply w g (Admit r b)).answer < bad_guest
    → (get_or b (length b - 1) 0 ≡ (reply w g (Admit r b)).answer → ⊥) → (reply w g (Admit r b)).writable ≡ b → ⊥
refusal_written w g r b h l d e = d (sym (ap (λ c. get_or c (length b - 1) 0) e) ∙ ((demand1 w g (Admit r b)).written h l).last)

-- ---- one that makes a guest's sessions all at attach: a granted attach leaves it none

released_own : (g : ℕ) (c : Place) → owned g (released g c) ≡ false
released_own g c = go (owned g c) refl
  where
    go : (b : Bool) → owned g c ≡ b → owned g (cond b free c) ≡ false
    go true e = refl
    go false e = e

pub attach_empties : (w : World) (g word : ℕ) → (reply w g (Attach word)).answer ≡ ok → holds (next w g (Attach word)).table g ≡ 0
unfolding reply outcome table_after
attach_empties w g word e =
    let t = w.table in
    ap (λ (u : World). holds u.table g) (sym (granted_next w g (Attach word) _ refl e))
    ∙ ap (count (owned g)) (after_attach t g).2
    ∙ count_map (owned g) (released g) (slots_of t)
    ∙ count_none (λ c. owned g (released g c)) (slots_of t) (All-every (λ c. owned g (released g c) ≡ false) (released_own g) (slots_of t))

-- ---- one refusing every create: after any set-up, a guest's first well-formed create is granted if it has a reserve

pub first_granted : (config reserves caps store : List ℕ) (g : ℕ) (r b : List ℕ)
    → (reply (set_up config reserves caps store) g (Attach 1)).answer ≡ ok
    → 0 < (guest_at (set_up config reserves caps store).table g).reserve
    → WellFormed (next (set_up config reserves caps store) g (Attach 1)) g r b
    → (reply (next (set_up config reserves caps store) g (Attach 1)) g (Control r b)).answer ≡ ok
unfolding past run noted
first_granted config reserves caps store g r b e h f =
    let w = set_up config reserves caps store in
    let c : Call Request = record { guest = g; request = Attach 1 } in
    let z = eq-eqb g g refl in
    (demand3 config reserves caps store (c ∷ [])).grants g r b (rw (z, e)) f (rw (z, e) (λ q. omega arith)) (omega (arith, h, attach_empties w g 1 e))

-- ---- an invented held count is against the history rule, `Demand3.history`
