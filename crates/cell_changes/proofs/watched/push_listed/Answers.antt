use Rattle.std.proofs.Common.{subst}
use Rattle.stamped_tree.specs.Plane.{map_of}
use Rattle.cell_changes.specs.Put.{IsPlaceOf, Puts}
use Rattle.cell_changes.proofs.Putting.{all_edits, next_edit, no_edit}
use Rattle.cell_changes.proofs.watched.push_listed.Goals as goal

pub loop-edit-init : goal.loop-edit-init
loop-edit-init c = no_edit (map_of c.args.plane.now) c.args.edits.now c.args.cells.now.items

pub loop-edit-preserved : goal.loop-edit-preserved
loop-edit-preserved c =
    next_edit (map_of c.args.plane.now) c.args.edits.now c.loop-edit.edit-index c.edit-item.result c.args.cells.now.items c.loop-edit.cells.items c.push_places.new.cells.items c.loop-edit-test.true c.edit-item.is c.loop-edit.invariant
    (subst (λ cells. Puts (map_of c.args.plane.now) (IsPlaceOf cells) c.loop-edit.cells.items c.push_places.new.cells.items) c.listed_cells.ensures.cells c.in_ok-push_places.ensures)

pub returns : goal.returns
returns c = all_edits (map_of c.args.plane.now) c.args.edits.now c.loop-edit.edit-index c.args.cells.now.items c.loop-edit.cells.items c.loop-edit-test.false c.loop-edit.invariant
