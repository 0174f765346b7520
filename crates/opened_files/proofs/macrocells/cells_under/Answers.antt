use Rattle.std.proofs.Common.{◌∙◌, sym, inr}
use Rattle.macrocell_text.specs.Readings.{macrocell_told}
use Rattle.opened_files.specs.Macrocells.{cells_refusal}
use Rattle.opened_files.proofs.MacrocellLaws.{refusal_listed}
use Rattle.opened_files.proofs.macrocells.cells_under.Goals as goal

pub returns-in-Some-clause-fault : goal.returns-in-Some-clause-fault
returns-in-Some-clause-fault c =
    inr (refusal_listed c.args.rule.now.states (macrocell_told c.args.macrocell.now).squares c.in-Ok.cells.items c.in-Ok.ensures.cells
    ∙ sym (c.cells_refusal.ensures ∙ (λ i. cells_refusal (c.states.ensures.value i) (c.deref.ensures.value i))) ∙ c.in-Some.is)

pub returns-in-None-clause-allowed : goal.returns-in-None-clause-allowed
returns-in-None-clause-allowed c =
    refusal_listed c.args.rule.now.states (macrocell_told c.args.macrocell.now).squares c.in-Ok.cells.items c.in-Ok.ensures.cells
    ∙ sym (c.cells_refusal.ensures ∙ (λ i. cells_refusal (c.states.ensures.value i) (c.deref.ensures.value i))) ∙ c.in-None.is
