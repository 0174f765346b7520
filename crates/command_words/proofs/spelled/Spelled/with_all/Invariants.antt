use Rattle.std.proofs.Common.{◌≡◌, length}
use Rattle.command_words.specs.Spelled.{spoken_of, with_all}
use Rattle.command_words.proofs.spelled.Spelled.with_all.Given as goal

-- what the arguments that are left make of what is said so far is what all make of what was said
abbrev pub invariant-loop-argument : goal.invariant-loop-argument
invariant-loop-argument l = with_all l.rest (spoken_of l.spelled) ≡ with_all l.arguments (spoken_of l.self)

abbrev pub decreases-loop-argument : goal.decreases-loop-argument
decreases-loop-argument l = length l.rest
