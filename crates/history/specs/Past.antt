-- What the history says of a guest.
use Rattle.std.specs.Prelude.{◌≡◌, true, cond, ℕ, suc, ◌+◌, eqb}
use mathlib.Core.List.{List, [], ◌∷◌}
use Rattle.history.specs.Cells.{State, view}
use Rattle.model.specs.View.{View}
use Rattle.model.specs.Act.{Act, refuse, pass, attach, create, destroy}
use Rattle.model.specs.Calls.{Past, begun, created, destroyed}
use Rattle.history.specs.Rules.{Rules, Call, act, next}

-- the history with one act more, of the guest with this view
unfoldable pub noted : Past → View → Act → Past
noted p v (refuse n) = p
noted p v pass = p
noted p v attach = begun true
noted p v (create e) = created (suc v.guest.last) p
noted p v (destroy n) = destroyed p

-- the view says what the history says; each granted create took the next number
pub record Told (p : Past) (v : View) : Type 0 where
  pub attached : v.guest.attached ≡ p.attached
  pub holds : v.holds + p.destroys ≡ p.creates
  pub last : v.guest.last ≡ p.last
  pub numbers : p.last ≡ p.creates

-- ---- lists of calls

module _ (R : Rules) where
  -- what the history of a list of calls says of guest g, from what was said before
  unfoldable pub past : ℕ → Past → State → List (Call R) → Past
  past g p s [] = p
  past g p s (c ∷ cs) = past g (cond (eqb c.guest g) (noted p (view s g) (act R s c)) p) (next R s c) cs
