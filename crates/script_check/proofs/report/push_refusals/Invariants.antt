use Rattle.std.proofs.Common.{map, take}
use Rattle.script_check.specs.Report.{AppendEntries, entry_of_refusal}
use Rattle.script_check.specs.Shown.{IsLeftOf}
use Rattle.script_check.proofs.report.push_refusals.Given as goal

abbrev pub invariant-loop-refusal : goal.invariant-loop-refusal
invariant-loop-refusal l = record {
  told : AppendEntries l.text.name.now l.text.script.now (map entry_of_refusal (take l.refusal-index l.refusals)) l.fn.out.items l.out.items;
  left : IsLeftOf l.text.script.now l.lines.number l.lines.rest.now;
}
