use Rattle.std.proofs.Common.{◌≡◌, ◌<◌, ◌+◌, ℕ, slice_index, length}
use Rattle.keyed_hash.specs.Keyed.{word_at}
use Rattle.keyed_hash.proofs.key.HashKey.of_bytes.Given as goal

abbrev pub invariant-loop-place : goal.invariant-loop-place
invariant-loop-place l = record {
  eight : length l.key.columns ≡ 8;
  thirty_two : length l.key.rows ≡ 32;
  columns : (i : ℕ) → i < l.place → slice_index l.key.columns i ≡ word_at l.bytes i;
}

abbrev pub invariant-loop-place-2 : goal.invariant-loop-place-2
invariant-loop-place-2 l = record {
  thirty_two : length l.key.rows ≡ 32;
  columns : (i : ℕ) → i < 8 → slice_index l.key.columns i ≡ word_at l.bytes i;
  rows : (i : ℕ) → i < l.place → slice_index l.key.rows i ≡ word_at l.bytes (8 + i);
}
