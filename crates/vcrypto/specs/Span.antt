-- Where bytes that a call hands on lie in those that were lent.
use Rattle.std.specs.Prelude.{ℕ, ◌+◌, ◌≤◌, ◌≡◌, cond, List, [], eqb, length}
use Rattle.model.specs.declared.Span.{Span}
use Rattle.model.specs.Bytes.{part}

-- p says where the bytes x lie in b
pub record Located (b : List ℕ) (p : Span) (x : List ℕ) : Type 0 where
  pub bytes : part b p.start p.size ≡ x
  pub inside : p.start + p.size ≤ length b
  pub empty : x ≡ [] → (p.start ≡ 0) × (p.size ≡ 0)

-- n bytes from s; from 0 where there are none
unfoldable pub span_of : ℕ → ℕ → Span
span_of s n = cond (eqb n 0) (record { start = 0; size = 0 }) (record { start = s; size = n })
