-- Laws of a number as bytes, and of the outcome bytes, each way that the code writes them.
-- Assumes nothing.
use Rattle.std.specs.Prelude.{ℕ, zero, suc, ◌-◌, ◌/◌, ◌%◌, ◌^◌, ◌≤◌, ◌≡◌, refl, List, [], ◌∷◌, ◌++◌, length, drop, set}
use Rattle.std.specs.Int.{w32, w64, to_le_bytes, byte_at, bytes_low_first}
use Rattle.std.proofs.Common.{sym, ap, ◌∙◌, arith, drop_of_length-le, eq-eqb}
use Rattle.std.proofs.Math.Nat.{div-one, div-div-eq-div-mul, pow-suc}
use Rattle.std.proofs.Math.Seq.{set_out}
use borrow.Rule.Slice.PartMut.{put_mid}
use Rattle.model.specs.Bytes.{le}
use Rattle.model.specs.Answer.{control_outcome, data_outcome}

-- ---- bytes i and up of x, as std's `to_le_bytes` writes them

byte_is : (i x : ℕ) → byte_at i x ≡ x / 256 ^ i % 256
byte_is zero x = ap (λ (y : ℕ). y % 256) (sym (div-one x))
byte_is (suc i) x = refl

bytes_are : (n i x : ℕ) → le n (x / 256 ^ i) ≡ bytes_low_first i n x
unfolding le
bytes_are zero i x = refl
bytes_are (suc n) i x =
    let next : x / 256 ^ i / 256 ≡ x / 256 ^ suc i = div-div-eq-div-mul x (256 ^ i) 256 ∙ ap (λ (y : ℕ). x / y) (sym (pow-suc 256 i)) in
    rw (byte_is i x, next, bytes_are n (suc i) x)

le_bytes : (n x : ℕ) → le n x ≡ bytes_low_first 0 n x
le_bytes n x = ap (le n) (sym (div-one x)) ∙ bytes_are n 0 x

-- ---- outcomes

pub control_16 : (w a b d : List ℕ) (id status : ℕ) → length w ≡ 16 → a ≡ to_le_bytes w64 id → b ≡ to_le_bytes w32 status → d ≡ 0 ∷ 0 ∷ 0 ∷ 0 ∷ []
    → put_mid 12 (length (put_mid 8 4 (a ++ drop 8 w) b) - 12) (put_mid 8 4 (a ++ drop 8 w) b) d ≡ control_outcome w id status
unfolding control_outcome
control_16 w a b d id status n e₁ e₂ e₃ =
    let past : List ℕ = drop 4 (drop 8 w) in
    let size : ℕ = length (to_le_bytes w64 id ++ (to_le_bytes w32 status ++ past)) in
    let none : drop (size - 12) past ≡ [] = drop_of_length-le past {i = size - 12} (omega arith) in
    rw (e₁, e₂, e₃, eq-eqb _ _ n, le_bytes 8 id, le_bytes 4 status, le_bytes 4 0)
    (ap (λ (l : List ℕ). to_le_bytes w64 id ++ (to_le_bytes w32 status ++ (0 ∷ 0 ∷ 0 ∷ 0 ∷ l))) none)

pub control_1 : (w : List ℕ) (id status : ℕ) → length w ≡ 1 → set w 0 status ≡ control_outcome w id status
unfolding control_outcome
control_1 [] id status n = absurd (omega arith)
control_1 (x ∷ []) id status n = refl
control_1 (x ∷ y ∷ w) id status n = absurd (omega arith)

pub data_empty : (w : List ℕ) (status : ℕ) → length w ≤ 0 → w ≡ data_outcome w status
unfolding data_outcome
data_empty w status h = sym (set_out w (length w - 1) status (omega arith))
