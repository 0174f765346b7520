use Rattle.std.proofs.Common.{◌≡◌}
use Rattle.std.specs.Prelude.{drop}
use Rattle.keyed_hash.specs.Keyed.{word_of}
use Rattle.keyed_hash.proofs.hasher.word.Given as goal

abbrev pub invariant-loop-place : goal.invariant-loop-place
invariant-loop-place l = l.word ≡ word_of (drop l.place l.bytes)
