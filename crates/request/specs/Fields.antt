-- The ways out of `asked` and `lengths`: the service picks the layout, and each field is what was read.
-- Assumes nothing.
use Rattle.std.specs.Prelude.{◌≡◌, List, ℕ, ◌/◌}
use Rattle.std.proofs.Common.{eq-eqb, ne_eqb}
use Rattle.model.specs.declared.Lengths.{Lengths}
use Rattle.model.specs.declared.Session.{Session}
use Rattle.model.specs.Bytes.{le32}
use Rattle.model.specs.Control.{asked}
use Rattle.model.specs.Data.{lengths}

module _ (r : List ℕ) (op : ℕ) (ho : op ≡ le32 r 0) where
  module _ (algo second third : ℕ) (ha : algo ≡ le32 r 16) (hs : second ≡ le32 r 20) (ht : third ≡ le32 r 24) where
    pub asked_cipher : op / 256 ≡ 0 → ◌≡◌ {A = Session} (record { service = op / 256; algo = algo; direction = third; keylen = second; result = 0; aad = 0 }) (asked r)
    unfolding asked
    asked_cipher e = rw (← ho, eq-eqb (op / 256) 0 e, e, ha, hs, ht)

    pub asked_hash : op / 256 ≡ 1 → ◌≡◌ {A = Session} (record { service = op / 256; algo = algo; direction = 0; keylen = 0; result = second; aad = 0 }) (asked r)
    unfolding asked
    asked_hash e = rw (← ho, e, ha, hs)

    pub asked_mac : op / 256 ≡ 2 → ◌≡◌ {A = Session} (record { service = op / 256; algo = algo; direction = 0; keylen = third; result = second; aad = 0 }) (asked r)
    unfolding asked
    asked_mac e = rw (← ho, e, ha, hs, ht)

    pub asked_aead : (aad direction : ℕ) → aad ≡ le32 r 28 → direction ≡ le32 r 32 → (op / 256 ≡ 0 → ⊥) → (op / 256 ≡ 1 → ⊥) → (op / 256 ≡ 2 → ⊥)
        → ◌≡◌ {A = Session} (record { service = 3; algo = algo; direction = direction; keylen = second; result = third; aad = aad }) (asked r)
    unfolding asked
    asked_aead aad direction hb hd d e f = rw (← ho, ne_eqb (op / 256) 0 d, ne_eqb (op / 256) 1 e, ne_eqb (op / 256) 2 f, ha, hs, ht, hb, hd)

  module _ (first second third : ℕ) (hf : first ≡ le32 r 24) (hs : second ≡ le32 r 28) (ht : third ≡ le32 r 32) where
    pub lengths_cipher : op / 256 ≡ 0 → ◌≡◌ {A = Lengths} (record { iv = first; source = second; aad = 0; written = third; result = 0 }) (lengths r)
    unfolding lengths
    lengths_cipher e = rw (← ho, e, hf, hs, ht)

    pub lengths_aead : (written result : ℕ) → written ≡ le32 r 36 → result ≡ le32 r 40 → op / 256 ≡ 3
        → ◌≡◌ {A = Lengths} (record { iv = first; source = third; aad = second; written = written; result = result }) (lengths r)
    unfolding lengths
    lengths_aead written result hw hr e = rw (← ho, e, hf, hs, ht, hw, hr)

    pub lengths_digest : (op / 256 ≡ 0 → ⊥) → (op / 256 ≡ 3 → ⊥) → ◌≡◌ {A = Lengths} (record { iv = 0; source = first; aad = 0; written = second; result = second }) (lengths r)
    unfolding lengths
    lengths_digest d e = rw (← ho, ne_eqb (op / 256) 0 d, ne_eqb (op / 256) 3 e, hf, hs)
