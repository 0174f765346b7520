use Rattle.std.proofs.Common.{◌≡◌, IfSome, true, length}
use Rattle.command_words.specs.Keywords.{keyword_name}
use Rattle.script_faults.specs.Findings.{are_near}
use Rattle.script_faults.proofs.nearest.nearest.Given as goal

-- the nearest so far is about as long
abbrev pub invariant-loop-keyword : goal.invariant-loop-keyword
invariant-loop-keyword l = IfSome l.nearest (λ keyword. are_near (length l.word) (length (keyword_name keyword)) ≡ true)
