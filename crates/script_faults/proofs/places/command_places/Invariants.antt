use Rattle.std.specs.Prelude.{true, false}
use Rattle.std.proofs.Common.{◌≡◌, ◌++◌, length, map}
use Rattle.genedit_script.specs.Script.{lines_from}
use Rattle.script_faults.specs.Faults.{command_lines, command_lines_from, has_end}
use Rattle.script_faults.proofs.places.command_places.Given as goal

abbrev pub invariant-loop-line : goal.invariant-loop-line
invariant-loop-line l = record {
  found : map (λ place. place.line) l.places.items ++ command_lines_from l.due (lines_from l.lines.number l.lines.rest.now) ≡ command_lines l.script;
  known : l.ends.none ≡ true → has_end (lines_from l.lines.number l.lines.rest.now) ≡ false;
}

abbrev pub decreases-loop-line : goal.decreases-loop-line
decreases-loop-line l = length l.lines.rest.now
