use Rattle.std.proofs.Common.{◌∙◌, sym, inl}
use Rattle.macrocell_text.specs.Readings.{macrocell_told}
use Rattle.genedit_view.specs.Macrocells.{cells_fault}
use Rattle.genedit_view.proofs.MacrocellLaws.{fault_listed}
use Rattle.genedit_view.proofs.macrocell.listed_under.Goals as goal

pub returns-in-Some-clause-fault : goal.returns-in-Some-clause-fault
returns-in-Some-clause-fault c =
    let squares = (macrocell_told c.args.macrocell.now).squares in
    let cells = c.in_ok-cells.cells.items in
    inl (fault_listed c.args.is_run c.args.rule.now.states squares cells c.in_ok-cells.ensures.cells
    ∙ sym (c.cells_fault.ensures ∙ (λ i. cells_fault c.args.is_run (c.states-states.ensures.value i) (c.deref.ensures.value i))) ∙ c.in-Some.is)

pub returns-in-None-clause-allowed : goal.returns-in-None-clause-allowed
returns-in-None-clause-allowed c =
    let squares = (macrocell_told c.args.macrocell.now).squares in
    let cells = c.in_ok-cells.cells.items in
    fault_listed c.args.is_run c.args.rule.now.states squares cells c.in_ok-cells.ensures.cells
    ∙ sym (c.cells_fault.ensures ∙ (λ i. cells_fault c.args.is_run (c.states-states.ensures.value i) (c.deref.ensures.value i))) ∙ c.in-None.is
