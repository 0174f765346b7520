use Rattle.std.proofs.Common.{◌-◌}
use Rattle.script_check.specs.Shown.{IsLeftOf}
use Rattle.script_check.proofs.LineLemmas.{HasBegun}
use Rattle.script_check.proofs.report.line_at.Given as goal

abbrev pub invariant-loop-lines : goal.invariant-loop-lines
invariant-loop-lines l = record { left : IsLeftOf l.script l.lines.number l.lines.rest.now; begun : HasBegun l.number l.lines.number }

abbrev pub decreases-loop-lines : goal.decreases-loop-lines
decreases-loop-lines l = l.number - l.lines.number
