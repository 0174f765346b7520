use Rattle.std.proofs.Common.{◌≡◌, ◌++◌, length, map, string_bytes}
use Rattle.genedit_words.specs.Bound.{bound_values}
use Rattle.genedit_words.proofs.options.bound_values.Given as goal

-- what is done, and what the words that are left become, is what all words become
abbrev pub invariant-loop-word : goal.invariant-loop-word
invariant-loop-word l = map string_bytes l.bound.items ++ bound_values (map string_bytes l.rest) ≡ bound_values (map string_bytes l.words)

abbrev pub decreases-loop-word : goal.decreases-loop-word
decreases-loop-word l = length l.rest
