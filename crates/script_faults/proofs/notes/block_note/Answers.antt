use Rattle.std.proofs.Common.{◌≡◌, ◌∙◌, sym, ap, refl}
use Rattle.std.specs.Prelude.{Bool, true, false, not, ◌||◌}
use Rattle.std.specs.Option.{is_none}
use Rattle.text_scan.specs.Words.{words}
use Rattle.genedit_script.specs.Script.{opening_spelled}
use Rattle.script_faults.specs.Faults.{if_faulty}
use Rattle.script_faults.proofs.FaultLemmas.{none_meant}
use Rattle.script_faults.proofs.notes.block_note.Goals.{else-closed-via-then-closed+else-is_some, else-closed-via-else-closed}
use Rattle.script_faults.proofs.notes.block_note.Goals as goal

not_closed : (none closed : Bool) → closed ≡ false → (none || not closed) ≡ true
not_closed true closed is = refl
not_closed false closed is = ap not is

pub returns : goal.returns
returns c =
    let faulty : (is_none (opening_spelled (words c.args.line.text.now)) || not c.args.closed) ≡ true =
    elim c.else-closed.branch [
      | else-closed-via-then-closed+else-is_some w ↦ ap (λ none. none || not c.args.closed) (none_meant _ w.opened_in.result _ w.opened_in.ensures (sym w.if-is_some.ensures))
      | else-closed-via-else-closed w ↦ not_closed (is_none (opening_spelled (words c.args.line.text.now))) c.args.closed w.if-closed.false
    ] in
    c.fault_at.ensures.lines ∙ sym (ap (λ faulty. if_faulty faulty c.args.line.number) faulty)
