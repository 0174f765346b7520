use Rattle.std.proofs.Common.{◌≡◌, ◌++◌, map, string_bytes}
use Rattle.std.specs.Prelude.{take}
use Rattle.genedit_words.proofs.options.push_all.Given as goal

abbrev pub invariant-loop-word : goal.invariant-loop-word
invariant-loop-word l = map string_bytes l.bound.items ≡ map string_bytes l.fn.bound.items ++ map string_bytes (take l.word-index l.words)
