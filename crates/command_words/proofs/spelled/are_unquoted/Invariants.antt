use Rattle.std.proofs.Common.{◌≡◌, length}
use Rattle.command_words.specs.Quotes.{are_unquoted, line_words}
use Rattle.command_words.proofs.spelled.are_unquoted.Given as goal

-- what holds of the words that are left holds of all, since it held of those before
abbrev pub invariant-loop-word : goal.invariant-loop-word
invariant-loop-word l = are_unquoted (line_words l.dialect l.rest) ≡ are_unquoted (line_words l.dialect l.line)

abbrev pub decreases-loop-word : goal.decreases-loop-word
decreases-loop-word l = length l.rest
