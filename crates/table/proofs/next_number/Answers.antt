-- The sum fits where a number is left.
use Prim.Native.Nat.{ℕ, ◌+◌, ◌≤◌, ◌<◌, ◌^◌}
use mathlib.Core.Path.{◌≡◌, refl}
use Rattle.std.proofs.Common.{arith, add-one}
use Rattle.std.specs.Prelude.{Option, None, Some, SomeIff, unwrap_or}
use borrow.Author.Tests.{le-leb, lt-leb}
use Rattle.model.specs.Session.{last_number}
use Rattle.table.specs.Narrow.{next_number, number_after}
use Rattle.table.proofs.next_number.Goals as goal

counted : (o : Option ℕ) (n : ℕ) → SomeIff o (n + 1 < 2 ^ 64) (n + 1) → (o ≡ next_number n) × (unwrap_or o 0 ≡ number_after n)
unfolding next_number number_after
counted None n h = rw (le-leb last_number n (let k : 2 ^ 64 ≤ n + 1 = omega (arith, h) in omega arith)) (refl, refl)
counted (Some x) n (h, e) = rw (lt-leb last_number n (omega arith), e, add-one n) (refl, refl)

pub returns : goal.returns
returns c = let e = counted _ _ c.checked_add.ensures in record { value = e.0; number = e.1 }
