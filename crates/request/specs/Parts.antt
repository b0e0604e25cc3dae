-- The three ways out of `place`: n and at are what its callees gave for the lengths and the place of the first variable part.
-- Assumes nothing.
use Rattle.std.specs.Prelude.{◌≡◌, List, ℕ, ◌+◌}
use Rattle.model.specs.declared.Field.{Field}
use Rattle.model.specs.declared.Field.TheVariants.{Iv, Source, Aad}
use Rattle.model.specs.declared.Lengths.{Lengths}
use Rattle.model.specs.Bytes.{le32, part}
use Rattle.model.specs.Data.{start_of, lengths, part_of}

module _ (r : List ℕ) (f : Field) (n : Lengths) (op at : ℕ) (hn : n ≡ lengths r) (ho : op ≡ le32 r 0) (ha : at ≡ start_of op) where
  pub place_iv : f ≡ Iv → part r at n.iv ≡ part_of f r
  unfolding part_of
  place_iv e = rw (e, ha, ho, hn)

  pub place_source : f ≡ Source → part r (at + n.iv) n.source ≡ part_of f r
  unfolding part_of
  place_source e = rw (e, ha, ho, hn)

  pub place_aad : f ≡ Aad → part r (at + n.iv + n.source) n.aad ≡ part_of f r
  unfolding part_of
  place_aad e = rw (e, ha, ho, hn)
