-- The ways out of `create`, `destroy` and `control`: a law for each, with what the callees' contracts say as premises.
-- Assumes nothing.
use Rattle.std.specs.Prelude.{ℕ, suc, ◌+◌, ◌<◌, cond, List, eqb, ltb, length}
use Rattle.std.proofs.Math.Path.{◌≡◌, refl, ap}
use Rattle.std.proofs.Common.{sym, ◌∙◌, ⊎_elim, lt-ltb}
use Rattle.std.proofs.Math.Bool.{true}
use borrow.Author.Tests.{eq-eqb, ne_eqb}
use Rattle.lists.specs.Test.{same}
use Rattle.model.specs.declared.Guest.{Guest}
use Rattle.model.specs.declared.Session.{Session}
use Rattle.model.specs.declared.Table.{Table}
use Rattle.model.specs.Bytes.{le64, part}
use Rattle.model.specs.Answer.{ok, Check, first_fail, control_bytes}
use Rattle.model.specs.Session.{World, holding, guest_at, zeros, area_of, free}
use Rattle.model.specs.View.{setting, view, free_at, live_at}
use Rattle.model.specs.Act.{create, destroy, with_slot, with_guest, numbered, table_after, store_after}
use Rattle.model.specs.Control.{is_create, asked, create_part, new_entry, destroy_checks, control_checks, control_act}
use Rattle.model.specs.Device.{Control, if_granted, checks_of, outcome, checks, reply, next, world}
use Rattle.laws.specs.Judge.{Passed, first_passed, holds_at}
use Rattle.laws.specs.Effect.{replied, granted_next, refused_next, find_bare}
use Rattle.laws.specs.Bounds.{asked_small}
use Rattle.keystore.specs.Stored.{stored}
use Rattle.table.specs.Narrow.{low, lastly}
use Rattle.table.specs.NarrowLaws.{low_small}
use Rattle.device.specs.Stages.{creation, destruction, changing}

-- ---- create: all checks hold

module _ (t : Table) (g : ℕ) (r : List ℕ) (room store : ℕ) (e : ok ≡ first_fail (creation t g r room store)) where
  passed : Passed (creation t g r room store)
  passed = first_passed (creation t g r room store) refl (sym e)

  -- the session is kept whole
  kept : low (asked r) ≡ asked r
  kept =
      let cs = creation t g r room store in
      low_small (asked r) (asked_small t.config r (holds_at cs 8 passed) (holds_at cs 10 passed) (holds_at cs 11 passed))

  -- x is what is asked for, `at` and n what it is granted, p the size of its fixed part and q the guest's record
  module _ (b : List ℕ) (hs : store ≡ length b) (at n : ℕ) (ha : at ≡ free_at t) (hi : at < 128) (hn : n ≡ suc (guest_at t g).last) (x : Session) (hx : x ≡ asked r)
      (p : ℕ) (hp : p ≡ create_part x.service) (key : List ℕ) (hk : key ≡ part r (16 + p) x.keylen) (b' : List ℕ) (hb : b' ≡ stored b at (area_of x.service key))
      (q : Guest) (hq : q ≡ guest_at t g) (u : Table) (hu : u ≡ cond (ltb at 128) (with_guest (with_slot t at (holding g n (low x))) g (lastly q n)) t) where
    pub created : (u ≡ table_after t g (create (new_entry r))) × (b' ≡ store_after t b g (create (new_entry r)))
    unfolding table_after store_after new_entry stored lastly numbered
    created =
        let i = lt-ltb at 128 hi in
        let sized : eqb (length b) 16384 ≡ true = rw (← hs) passed.0 in
        (hu ∙ rw (i, ha, hx, kept, hn, hq), hb ∙ rw (sized, i, ha, hk, hp, hx))

-- ---- destroy: all checks hold; `at` is the session's slot

module _ (t : Table) (g : ℕ) (r : List ℕ) (room store : ℕ) (e : ok ≡ first_fail (destruction t g r room store)) where
  pub destroyed : (b : List ℕ) → store ≡ length b → (at : ℕ) → (at ≡ live_at t g (le64 r 16)) × (at < 128) → (b' : List ℕ) → b' ≡ stored b at zeros
      → (u : Table) → u ≡ with_slot t at free
      → (u ≡ table_after t g (destroy (le64 r 16))) × (b' ≡ store_after t b g (destroy (le64 r 16)))
  unfolding table_after store_after stored
  destroyed b hs at ha b' hb u hu =
      let p = first_passed (destruction t g r room store) refl (sym e) in
      let sized : eqb (length b) 16384 ≡ true = rw (← hs) p.0 in
      (hu ∙ rw ha.0, hb ∙ rw (sized, lt-ltb at 128 ha.1, ha.0))

-- ---- what control leaves of the writable bytes w: a is the answer, n a granted request's session number, w₁ what the change left

module _ (w : List ℕ) (a n : ℕ) (w₁ : List ℕ) (h : w₁ ≡ if_granted a (control_bytes w n ok) w) where
  pub written_granted : a ≡ 0 → w₁ ≡ control_bytes w (if_granted a n 0) a
  written_granted z = h ∙ rw (eq-eqb a ok z, z) refl

  pub written_refused : (a ≡ 0 → ⊥) → (w' : List ℕ) → w' ≡ control_bytes w₁ 0 a → w' ≡ control_bytes w (if_granted a n 0) a
  written_refused d w' k = k ∙ rw (h, ne_eqb a ok d) refl

-- ---- control: a is the answer, id the session number of the outcome

module _ (t : Table) (g : ℕ) (r w b : List ℕ) where
  abbrev v : World
  v = world t b

  judged : changing t g r (length w) (length b) ≡ checks v g (Control r w)
  unfolding checks checks_of control_checks
  judged =
      let n = le64 r 16 in
      let cs : destruction t g r (length w) (length b) ≡ destroy_checks (setting v) g (view v g) r (length w) = rw ((find_bare v g n).0, (find_bare v g n).1) in
      ap (λ (ds : List Check). cond (is_create r) (creation t g r (length w) (length b)) ds) cs

  abbrev Controlled : ℕ → Table → List ℕ → List ℕ → Type 0
  Controlled a u b' w' =
      (a ≡ (reply v g (Control r w)).answer)
      × ((u ≡ (next v g (Control r w)).table) × ((b' ≡ (next v g (Control r w)).store) × (w' ≡ (reply v g (Control r w)).writable)))

  module _ (a id : ℕ) (u : Table) (b' w' : List ℕ) (e : a ≡ first_fail (changing t g r (length w) (length b)))
      (hi : id ≡ if_granted a (cond (is_create r) (suc (guest_at t g).last) 0) 0) (hu : u ≡ if_granted a (table_after t g (control_act r)) t)
      (hb : b' ≡ if_granted a (store_after t b g (control_act r)) b) (hw : w' ≡ control_bytes w id a) where
    answered : a ≡ first_fail (checks v g (Control r w))
    answered = e ∙ ap first_fail judged

    answer_control : (a ≡ (reply v g (Control r w)).answer) × (w' ≡ (reply v g (Control r w)).writable)
    unfolding outcome
    answer_control = rw (← replied v g (Control r w) a answered) (refl, hw ∙ ap (λ (m : ℕ). control_bytes w m a) hi)

    pub controlled : Controlled a u b' w'
    controlled =
        ⊎_elim
        (λ (z : a ≡ 0).
        let n = granted_next v g (Control r w) a answered z in
        (answer_control.0, (hu ∙ rw (eq-eqb a ok z) (ap (λ (x : World). x.table) n), (hb ∙ rw (eq-eqb a ok z) (ap (λ (x : World). x.store) n), answer_control.1))))
        (λ (d : a ≡ 0 → ⊥).
        let n = refused_next v g (Control r w) a answered d in
        (answer_control.0, (hu ∙ rw (ne_eqb a ok d) (ap (λ (x : World). x.table) n), (hb ∙ rw (ne_eqb a ok d) (ap (λ (x : World). x.store) n), answer_control.1))))
        (same a 0)
