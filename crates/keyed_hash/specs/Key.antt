-- Which key some bytes make, and which a source gives.
use Rattle.std.specs.Prelude.{◌≡◌, ℕ, ◌+◌, ◌<◌, List, length, Option, slice_index}
use Rattle.std.specs.Io.KnownBytes.{Consumes}
use Rattle.keyed_hash.specs.declared.key.HashKey.{HashKey}
use Rattle.keyed_hash.specs.Keyed.{word_at}

-- eight bytes of each number, the lowest first: of the eight columns, then of the rows
pub record IsKeyOf (bytes : List ℕ) (key : HashKey) : Type 0 where
  pub as_many : length bytes ≡ 320
  pub columns : (i : ℕ) → i < 8 → slice_index key.columns i ≡ word_at bytes i
  pub rows : (i : ℕ) → i < 32 → slice_index key.rows i ≡ word_at bytes (8 + i)

-- a reader gave so many bytes and no more, and the key is of all of them
pub record IsDrawnFrom (before after : Option (List ℕ)) (key : HashKey) : Type 0 where
  pub bytes : List ℕ
  pub given : Consumes before after bytes
  pub made : IsKeyOf bytes key
