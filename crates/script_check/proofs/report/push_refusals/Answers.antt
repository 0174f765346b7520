use Rattle.std.proofs.Common.{◌∙◌, ap, get_or, ◌++◌, List, ℕ}
use Rattle.script_check.specs.declared.refusals.Refusal.{Refusal}
use Rattle.script_faults.specs.declared.note.Place.{Place}
use Rattle.script_check.specs.Report.{entry_of_refusal, line_shown, place_text, will_be_refused}
use Rattle.script_check.specs.Shown.{line_text}
use Rattle.script_check.proofs.ReportLemmas.{entry_at}
use Rattle.script_check.proofs.report.push_refusals.Goals as goal

pub loop-refusal-preserved : goal.loop-refusal-preserved
loop-refusal-preserved c =
    let name : List ℕ = c.args.text.name.now in
    let script : List ℕ = c.args.text.script.now in
    let old : List ℕ = c.loop-refusal.out.items in
    let told : List ℕ = c.as_bytes.result.now in
    let said = c.in_ok-told.ensures in
    let none : Refusal = record { command = 0; place = record { line = 0; column = 0; width = 0 }; number = 0 } in
    let place : Place = (get_or c.args.refusals.now c.loop-refusal.refusal-index none).place in
    record {
      told = entry_at entry_of_refusal name script c.args.out.now.items old c.push_entry.new.out.items said.0
          c.args.refusals.now c.loop-refusal.refusal-index none c.loop-refusal-test.true c.loop-refusal.invariant.told
          (c.in_ok-push_entry.ensures
          ∙ ap (λ (line : List ℕ). old ++ ((place_text name place ++ told) ++ line_shown line place)) c.line_at-line.ensures.line
          ∙ ap (λ (t : List ℕ). old ++ ((place_text name place ++ t) ++ line_shown (line_text script place.line) place)) (c.as_bytes.ensures.value ∙ said.1 ∙ ap (λ (n : ℕ). will_be_refused n ++ said.0) c.refused_of.ensures));
      left = c.line_at-line.ensures.left;
    }
