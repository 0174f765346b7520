use Rattle.std.proofs.Common.{[], ◌∙◌, refl, subst}
use Rattle.std.specs.Prelude.{filter_map}
use Rattle.stamped_tree.specs.Plane.{map_of}
use Rattle.stamped_tree.specs.Sought.{is_in_some, part_of}
use Rattle.stamped_tree.specs.Walk.{AreNonzeroCells}
use Rattle.cell_changes.proofs.Covering.{covered_put}
use Rattle.cell_changes.proofs.Putting.{edits_put}
use Rattle.cell_changes.proofs.Joining.{watches_edits}
use Rattle.cell_changes.proofs.watched.Watched.of_edits.Goals as goal

pub returns : goal.returns
returns c =
    let map = map_of c.args.plane.now in
    let edits = c.args.edits.now in
    watches_edits map c.push_listed.new.cells.items edits
    (edits_put map edits [] c.in_ok-cells.cells.items c.push_listed.new.cells.items
    (covered_put map (filter_map (λ e. e.area) edits) [] c.in_ok-cells.cells.items refl
    (subst (λ areas. AreNonzeroCells (part_of (is_in_some areas) map) c.in_ok-cells.cells.items) (c.deref.ensures.value ∙ c.in_ok-areas.ensures) c.in_ok-cells.ensures))
    c.in_ok-push_listed.ensures)
