use Rattle.std.proofs.Common.{◌≡◌, ◌∙◌, sym}
use Rattle.edit_stamps.specs.Pasting.{placed}
use Rattle.genedit_rle.specs.Canonical.{cells_in_plane}
use Rattle.genedit_view.proofs.PatternLaws.{pattern_cells_are}
use Rattle.genedit_view.proofs.pattern.placed.Goals as goal

pub returns-clause-cells : goal.returns-clause-cells
returns-clause-cells c =
    let p = c.args.pattern.now in
    let cells : c.in_ok-cells.cells.items ≡ cells_in_plane p =
    c.in_ok-cells.ensures ∙ (λ i. placed (c.position_of.ensures i).x (c.position_of.ensures i).y (c.cells.ensures.value i)) in
    pattern_cells_are c.args.is_run c.args.rule.now p c.in_ok-cells.cells.items c.states-states.ensures.rule c.cells.ensures.pattern (sym c.in_default.is ∙ c.fault_of.ensures) cells
