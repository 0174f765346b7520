use Rattle.std.specs.Prelude.{take}
use Rattle.stamped_tree.specs.Plane.{map_of}
use Rattle.cell_changes.specs.Put.{Puts, SomeLists}
use Rattle.cell_changes.proofs.watched.push_listed.Given as goal

abbrev pub invariant-loop-edit : goal.invariant-loop-edit
invariant-loop-edit l = Puts (map_of l.plane) (SomeLists (take l.edit-index l.edits)) l.fn.cells.items l.cells.items
