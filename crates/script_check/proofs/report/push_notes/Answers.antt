use Rattle.std.proofs.Common.{[], ◌∙◌, ap, sym, subst, take, map, ◌++◌, ◌+◌, List, ℕ}
use Rattle.script_faults.specs.declared.note.Note.{Note}
use Rattle.script_faults.specs.declared.note.Note.TheVariants.{Fault}
use Rattle.script_faults.specs.declared.note.Place.{Place}
use Rattle.script_faults.specs.declared.reason.Reason.TheVariants.{ByteOrderMark}
use Rattle.script_check.specs.Report.{AppendEntries, entry_of_note, entry_text, line_shown, place_text}
use Rattle.script_check.proofs.ReportLemmas.{entry_at}
use Rattle.script_check.proofs.report.push_notes.Goals as goal

pub loop-note-preserved : goal.loop-note-preserved
loop-note-preserved c =
    let name : List ℕ = c.args.name.now in
    let script : List ℕ = c.args.script.now in
    let old : List ℕ = c.args.out.now.items in
    let before : List ℕ = c.loop-note.out.items in
    let told : List ℕ = c.as_bytes.result.now in
    let notes : List Note = c.deref-note-items.result.now in
    let so_far : AppendEntries name script (map entry_of_note (take c.loop-note.note-index notes)) old before =
    subst (λ (n : List Note). AppendEntries name script (map entry_of_note (take c.loop-note.note-index n)) old before) (sym c.deref-note-items.ensures.value) c.loop-note.invariant.told in
    let none : Note = Fault (record { line = 0; column = 0; width = 0 }) ByteOrderMark in
    let shown =
    c.in_ok-push_entry.ensures ∙ ap (λ (line : List ℕ). before ++ ((place_text name c.place-place.result ++ told) ++ line_shown line c.place-place.result)) c.line_at-line.ensures.line in
    record {
      told = subst (λ (n : List Note). AppendEntries name script (map entry_of_note (take (c.loop-note.note-index + 1) n)) old c.push_entry.new.out.items) c.deref-note-items.ensures.value
          (entry_at entry_of_note name script old before c.push_entry.new.out.items told notes c.loop-note.note-index none c.loop-note-test.true so_far
          (shown ∙ ap (λ (p : Place). before ++ entry_text name script (record { place = p; begins = [] }) told) c.place-place.ensures));
      left = c.line_at-line.ensures.left;
    }
