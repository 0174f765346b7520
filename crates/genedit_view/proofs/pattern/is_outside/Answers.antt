use Rattle.std.proofs.Common.{◌≡◌, ◌∙◌, true}
use Rattle.edit_stamps.specs.Pasting.{are_placeable}
use Rattle.genedit_view.specs.Cells.{are_in_plane_at}
use Rattle.genedit_view.proofs.PatternLaws.{outside_is}
use Rattle.genedit_view.proofs.pattern.is_outside.Goals as goal

pub returns-then-is_run : goal.returns-then-is_run
returns-then-is_run c =
    let p = c.args.pattern.now in
    let placeable : true ≡ are_placeable p.pos.0 p.pos.1 p.cells =
    c.if-not-are_placeable.ensures ∙ (λ i. are_placeable (c.position_of-position.ensures i).x (c.position_of-position.ensures i).y (c.cells-cells.ensures.value i)) in
    let in_plane : c.are_in_plane.result ≡ are_in_plane_at p.pos.0 p.pos.1 p.cells =
    c.are_in_plane.ensures ∙ (λ i. are_in_plane_at (c.position_of-position.ensures i).x (c.position_of-position.ensures i).y (c.cells-cells.ensures.value i)) in
    rw c.if-is_run.true (outside_is true p true c.are_in_plane.result placeable in_plane)
