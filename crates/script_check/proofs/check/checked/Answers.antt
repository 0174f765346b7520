use Rattle.std.proofs.Common.{◌≡◌, ◌∙◌, ap, sym, subst, false, ℕ, List, rules}
use Rattle.std.specs.Prelude.{Err}
use Rattle.std.specs.List.{list_any}
use Rattle.script_faults.specs.Faults.{is_fault}
use Rattle.script_check.specs.Check.{AreRefused, IsRefusedRun}
use Rattle.script_check.specs.declared.refusals.Refusal.{Refusal}
use Rattle.script_check.proofs.CheckLemmas.{not_faulty, told_with_faults, told_without}
use Rattle.script_check.proofs.check.checked.Goals as goal
use Rattle.script_check.proofs.check.checked.Goals.{then-has_fault, else-has_fault+in_ok-refusals}

pub returns-in_err-refusals-clause-stopped : goal.returns-in_err-refusals-clause-stopped
returns-in_err-refusals-clause-stopped c =
    let none : list_any is_fault c.in_ok-notes.notes.notes.items ≡ false = ap (list_any is_fault) (sym c.deref.ensures.value) ∙ sym c.has_fault.ensures ∙ c.if-has_fault.false in
    let is : c.from_residual-in_err-refusals.result ≡ Err c.in_err-refusals.field-0.0 = search rules in
    rw is (not_faulty c.args.script.now c.in_ok-notes.notes.notes.items c.in_err-refusals.field-0.0 c.in_ok-notes.ensures.first none c.in_err-refusals.ensures.fault)

pub returns-clause-refusals : goal.returns-clause-refusals
returns-clause-refusals c =
    let asked : list_any is_fault c.in_ok-notes.notes.notes.items ≡ c.has_fault.result = ap (list_any is_fault) (sym c.deref.ensures.value) ∙ sym c.has_fault.ensures in
    subst (λ (lines : List ℕ). AreRefused c.args.script.now lines c.if-has_fault.refusals.items) c.in_ok-notes.ensures.lines
    (elim c.if-has_fault.branch [
      | then-has_fault w ↦ told_with_faults c.args.script.now c.in_ok-notes.notes.notes.items c.if-has_fault.refusals.items (asked ∙ w.if-has_fault.true) (ap (λ v. v.items) w.refusals-is ∙ w.new-refusals.ensures.items)
      | else-has_fault+in_ok-refusals w ↦ told_without c.args.script.now c.in_ok-notes.notes.notes.items c.if-has_fault.refusals.items (asked ∙ w.if-has_fault.false)
          (subst (λ (r : List Refusal). IsRefusedRun c.args.script.now r) (sym (ap (λ v. v.items) w.refusals-is)) w.in_ok-refusals.ensures.refused)
    ])
