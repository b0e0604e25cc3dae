-- A control request is a create or a destroy: what holds of both holds of its checks and of its act.
-- Assumes nothing.
use Rattle.std.specs.Prelude.{◌≡◌, refl, Bool, true, false, cond, List, ℕ}
use Rattle.model.specs.Bytes.{le64}
use Rattle.model.specs.Answer.{Check}
use Rattle.model.specs.View.{Setting, View}
use Rattle.model.specs.Act.{Act, create, destroy}
use Rattle.model.specs.Control.{is_create, new_entry, create_checks, destroy_checks, control_checks, control_act}

-- P is told whether it is a create, its checks with room or without, and its act
pub by_kind : (P : Bool → (Bool → List Check) → Act → Type 0) (k : Setting) (g : ℕ) (v : View) (r : List ℕ) (room : ℕ)
    → (is_create r ≡ true → P true (λ f. create_checks k g v f r room) (create (new_entry r)))
    → (is_create r ≡ false → P false (λ f. destroy_checks k g v r room) (destroy (le64 r 16)))
    → P (is_create r) (λ f. control_checks k g v f r room) (control_act r)
unfolding control_checks
by_kind P k g v r room p q = go (is_create r) refl
  where
    go : (t : Bool) → is_create r ≡ t → P t (λ f. cond t (create_checks k g v f r room) (destroy_checks k g v r room)) (cond t (create (new_entry r)) (destroy (le64 r 16)))
    go true e = p e
    go false e = q e
