use Rattle.std.proofs.Common.{◌∙◌, ap, sym, length, List}
use Rattle.std.specs.Prelude.{◌==◌}
use Rattle.script_check.specs.declared.refusals.Refusal.{Refusal}
use Rattle.std.specs.List.{list_any}
use Rattle.script_faults.specs.Faults.{is_fault}
use Rattle.script_check.proofs.CheckLemmas.{told_outcome, clean_outcome, refused_outcome}
use Rattle.script_check.proofs.check.Report.outcome.Goals as goal

pub returns-then-has_fault : goal.returns-then-has_fault
returns-then-has_fault c =
    told_outcome c.args.self.now.notes.notes.items c.args.self.now.refusals.items
    (ap (list_any is_fault) (sym c.deref.ensures.value) ∙ sym c.has_fault.ensures ∙ c.if-has_fault.true)

pub returns-then-is_empty : goal.returns-then-is_empty
returns-then-is_empty c =
    clean_outcome c.args.self.now.notes.notes.items c.args.self.now.refusals.items
    (ap (list_any is_fault) (sym c.deref.ensures.value) ∙ sym c.has_fault.ensures ∙ c.if-has_fault.false) (ap (λ (r : List Refusal). length r == 0) (sym c.as_slice.ensures.value) ∙ sym c.is_empty.ensures ∙ c.if-is_empty.true)

pub returns-else-is_empty : goal.returns-else-is_empty
returns-else-is_empty c =
    refused_outcome c.args.self.now.notes.notes.items c.args.self.now.refusals.items
    (ap (list_any is_fault) (sym c.deref.ensures.value) ∙ sym c.has_fault.ensures ∙ c.if-has_fault.false) (ap (λ (r : List Refusal). length r == 0) (sym c.as_slice.ensures.value) ∙ sym c.is_empty.ensures ∙ c.if-is_empty.false)
