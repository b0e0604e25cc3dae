-- The part of a configuration's test that looks at its masks.
use Rattle.std.specs.Prelude.{Bool, [], ◌∷◌, ◌&&◌}
use Rattle.model.specs.declared.Config.{Config}
use Rattle.model.specs.Algorithm.{cipher, hash, mac, aead, ciphers, hashes, macs, aeads}
use Rattle.model.specs.Setup.{only_bits}

-- each mask has only bits of its list
abbrev pub masks_ok : Config → Bool
masks_ok k =
    only_bits (cipher ∷ hash ∷ mac ∷ aead ∷ []) k.services
    && only_bits ciphers k.ciphers
    && only_bits [] k.ciphers2
    && only_bits hashes k.hashes
    && only_bits macs k.macs
    && only_bits [] k.macs2
    && only_bits aeads k.aeads
