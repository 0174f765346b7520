use Rattle.std.proofs.Common.{◌≡◌, length}
use Rattle.script_faults.proofs.finding.arguments_finding.Given as goal

abbrev pub decreases-loop-word : goal.decreases-loop-word
decreases-loop-word l = length l.words.rest.now

abbrev pub invariant-loop-word : goal.invariant-loop-word
invariant-loop-word l = l.words.line.now ≡ l.initial.words.line.now
