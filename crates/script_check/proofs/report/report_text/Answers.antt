use Rattle.std.proofs.Common.{◌∙◌, ap, sym, subst, map, [], ◌++◌, ℕ, List, length}
use Rattle.std.specs.Prelude.{count_by}
use Rattle.script_faults.specs.declared.note.Note.{Note}
use Rattle.script_faults.specs.Faults.{is_fault}
use Rattle.script_check.specs.Report.{AreEntries, count_text, entry_of_note, no_entry}
use Rattle.script_check.proofs.report.report_text.Goals as goal

pub returns : goal.returns
returns c =
    let name = c.args.name.now in
    let script = c.args.script.now in
    let none : AreEntries name script [] c.new-out.result.items = subst (λ (t : List ℕ). AreEntries name script [] t) (sym c.new-out.ensures.items) no_entry in
    let notes : AreEntries name script (map entry_of_note c.args.notes.now.notes.items) c.push_notes.new.out.items = c.in_ok-push_notes.ensures [] none in
    let faults = c.faults_among-faults.ensures ∙ ap (λ (n : List Note). count_by is_fault n) c.deref.ensures.value in
    record {
      entries = c.push_refusals.new.out.items;
      are_entries = c.in_ok-push_refusals.ensures (map entry_of_note c.args.notes.now.notes.items) notes;
      whole = c.in_ok-push_count.ensures ∙ ap (λ (n : ℕ). c.push_refusals.new.out.items ++ count_text n (length c.args.refusals.now)) faults;
    }
