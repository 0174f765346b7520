use Rattle.std.proofs.Common.{map, take}
use Rattle.script_check.specs.Report.{AppendEntries, entry_of_note}
use Rattle.script_check.specs.Shown.{IsLeftOf}
use Rattle.script_check.proofs.report.push_notes.Given as goal

abbrev pub invariant-loop-note : goal.invariant-loop-note
invariant-loop-note l = record {
  told : AppendEntries l.name l.script (map entry_of_note (take l.note-index l.notes.notes.items)) l.fn.out.items l.out.items;
  left : IsLeftOf l.script l.lines.number l.lines.rest.now;
}
