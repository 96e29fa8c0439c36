-- The hash of a flow.
use Rattle.std.specs.Prelude.{ℕ, List, ◌∷◌, ◌++◌, take}
use Rattle.std.specs.Int.{w64, from_le_bytes}
use Rattle.sha2.specs.Sha256.{sha256}

-- the first 8 bytes, read little-endian, of the digest of the schema, a zero byte and the distinguisher
unfoldable pub flow_hash_of : List ℕ → List ℕ → ℕ
flow_hash_of schema distinguisher =
    from_le_bytes w64 (take 8 (sha256 (schema ++ 0 ∷ distinguisher)))
