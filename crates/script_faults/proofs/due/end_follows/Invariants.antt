use Rattle.std.proofs.Common.{◌≡◌, length}
use Rattle.genedit_script.specs.Script.{lines_from}
use Rattle.script_faults.specs.Faults.{has_end}
use Rattle.script_faults.proofs.due.end_follows.Given as goal

abbrev pub decreases-loop-line : goal.decreases-loop-line
decreases-loop-line l = length l.lines.rest.now

abbrev pub invariant-loop-line : goal.invariant-loop-line
invariant-loop-line l = has_end (lines_from l.lines.number l.lines.rest.now) ≡ has_end (lines_from l.initial.lines.number l.initial.lines.rest.now)
