use Rattle.std.proofs.Common.{◌≡◌}
use Rattle.script_faults.proofs.finding.front_of_file.Given as goal

abbrev pub invariant-loop-number : goal.invariant-loop-number
invariant-loop-number l = l.words.line.now ≡ l.line
