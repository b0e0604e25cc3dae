-- The ways out of the functions that answer, stage after stage: a law for each, with what the callees' contracts say as premises.
-- Assumes nothing.
use Rattle.std.specs.Prelude.{ℕ, ◌<◌, ◌≡◌, refl, Bool, true, List, ◌++◌, length, Option, Some, unwrap_or, IfSome}
use Rattle.std.proofs.Math.Path.{subst}
use Rattle.std.proofs.Common.{sym, ap, ◌∙◌}
use Rattle.lists.specs.Test.{and_true}
use Rattle.model.specs.declared.Session.{Session}
use Rattle.model.specs.declared.Table.{Table}
use Rattle.model.specs.Bytes.{le32, le64}
use Rattle.model.specs.Answer.{ok, Check, first_fail}
use Rattle.model.specs.Session.{guest_at}
use Rattle.model.specs.View.{free_at, find, is_live, session_in, present}
use Rattle.model.specs.Control.{end_checks}
use Rattle.model.specs.Device.{bare}
use Rattle.laws.specs.Judge.{first_passed, holds_at}
use Rattle.laws.specs.Stages.{stop, go_on}
use Rattle.device.specs.Stages.{opening, form, granting, creation, destruction}

-- ---- a grant

-- the slot of a grant
pub slot_granted : (t : Table) (o : Option ℕ) (at : ℕ) → o ≡ Some at → unwrap_or o 128 ≡ free_at t → IfSome o (λ x. x < 128) → (at ≡ free_at t) × (at < 128)
slot_granted t o at e h i = (sym (ap (λ (m : Option ℕ). unwrap_or m 128) e) ∙ h, subst (λ (m : Option ℕ). IfSome m (λ x. x < 128)) e i)

-- ---- control requests; a is the answer of steps 1 to 3

module _ (t : Table) (g : ℕ) (r : List ℕ) (room store a : ℕ) (here : Bool) (hh : here ≡ present g (guest_at t g))
    (e : a ≡ first_fail (opening t.config here r room store)) where
  abbrev first : List Check
  first = opening t.config (present g (guest_at t g)) r room store

  opened : a ≡ first_fail first
  opened = rw (← hh) e

  abbrev second : List Check
  second = form t.config r

  pub create_stop : (a ≡ 0 → ⊥) → a ≡ first_fail (creation t g r room store)
  create_stop = stop first (second ++ granting t g) a opened

  pub create_form : (b : ℕ) → a ≡ 0 → b ≡ first_fail (form t.config r) → (b ≡ 0 → ⊥) → b ≡ first_fail (creation t g r room store)
  create_form b z f d = go_on first (second ++ granting t g) a b refl opened z (stop second (granting t g) b f d)

  pub create_grant : (b m : ℕ) → a ≡ 0 → b ≡ first_fail (form t.config r) → b ≡ 0 → m ≡ first_fail (granting t g) → m ≡ first_fail (creation t g r room store)
  create_grant b m z f y q = go_on first (second ++ granting t g) a m refl opened z (go_on second (granting t g) b m refl f y q)

  -- alive and x are what the search gave for number n
  module _ (n : ℕ) (alive : Bool) (x : Session) (hn : n ≡ le64 r 16) (ha : alive ≡ is_live (find (bare t) g n)) (hx : x ≡ session_in (find (bare t) g n)) where
    pub destroy_end : (m op : ℕ) → op ≡ le32 r 0 → a ≡ 0 → m ≡ first_fail (end_checks alive x op (length r)) → m ≡ first_fail (destruction t g r room store)
    destroy_end m op ho z f = go_on first _ a m refl opened z (f ∙ rw (ha, hx, hn, ho))

-- a destroy that passes names a live session
pub ends_alive : (alive : Bool) (x : Session) (op len : ℕ) → ok ≡ first_fail (end_checks alive x op len) → alive ≡ true
ends_alive alive x op len e = (and_true alive _ (holds_at (end_checks alive x op len) 1 (first_passed (end_checks alive x op len) refl (sym e)))).0
