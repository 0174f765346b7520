use Rattle.std.proofs.Common.{◌∙◌, ap}
use Rattle.pattern_cells.specs.Cells.{are_states_below, are_nonzero, is_sorted}
use Rattle.pattern_cells.specs.Pattern.{are_alive, are_sorted}
use Rattle.edit_stamps.specs.Pasting.{are_placeable, placed}
use Rattle.edit_stamps.proofs.PastingLaws.{alive_placed, sorted_placed}
use Rattle.genedit_rle.proofs.PlacedLaws.{below, placeable}
use Rattle.genedit_rle.proofs.canonical.text_of.Goals as goal

pub placed_cells-requires : goal.placed_cells-requires
placed_cells-requires c =
    (λ i. are_placeable (c.position_of.ensures i).x (c.position_of.ensures i).y (c.cells.ensures.value i))
    ∙ placeable c.args.rule.now.states c.args.pattern.now c.requires

pub write-requires-clause-sorted : goal.write-requires-clause-sorted
write-requires-clause-sorted c =
    ap is_sorted (c.deref.ensures.value ∙ c.in_ok-cells.ensures)
    ∙ sorted_placed c.position_of.result.x c.position_of.result.y c.cells.result.now (ap are_sorted c.cells.ensures.value ∙ c.cells.ensures.pattern.sorted)

pub write-requires-clause-nonzero : goal.write-requires-clause-nonzero
write-requires-clause-nonzero c =
    ap are_nonzero (c.deref.ensures.value ∙ c.in_ok-cells.ensures)
    ∙ alive_placed c.position_of.result.x c.position_of.result.y c.cells.result.now (ap are_alive c.cells.ensures.value ∙ c.cells.ensures.pattern.alive)

pub write-requires-clause-below : goal.write-requires-clause-below
write-requires-clause-below c =
    ap (are_states_below c.args.rule.now.states) (c.deref.ensures.value ∙ c.in_ok-cells.ensures)
    ∙ (λ i. are_states_below c.args.rule.now.states (placed (c.position_of.ensures i).x (c.position_of.ensures i).y (c.cells.ensures.value i)))
    ∙ below c.args.rule.now.states c.args.pattern.now c.requires
