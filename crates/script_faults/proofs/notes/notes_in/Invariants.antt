use Rattle.std.specs.Prelude.{true, false}
use Rattle.std.proofs.Common.{◌≡◌, ◌+◌, ◌++◌, length}
use Rattle.std.specs.Str.Lines.{lines}
use Rattle.genedit_script.specs.Script.{lines_from}
use Rattle.script_faults.specs.Faults.{faulty_from, faulty_lines, fault_lines, has_end}
use Rattle.script_faults.proofs.notes.notes_in.Given as goal

abbrev pub invariant-loop-line : goal.invariant-loop-line
invariant-loop-line l = record {
  told : fault_lines l.notes.items ++ faulty_from l.due (length (lines l.script) + 1) (lines_from l.lines.number l.lines.rest.now) ≡ faulty_lines l.script;
  end : l.lines.number + length (lines l.lines.rest.now) ≡ length (lines l.script) + 1;
  known : l.ends.none ≡ true → has_end (lines_from l.lines.number l.lines.rest.now) ≡ false;
}

abbrev pub decreases-loop-line : goal.decreases-loop-line
decreases-loop-line l = length l.lines.rest.now
