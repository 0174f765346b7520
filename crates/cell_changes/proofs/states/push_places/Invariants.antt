use Rattle.std.specs.Prelude.{take}
use Rattle.stamped_tree.specs.Plane.{map_of}
use Rattle.cell_changes.specs.Put.{IsPlaceOf, Puts}
use Rattle.cell_changes.proofs.states.push_places.Given as goal

abbrev pub invariant-loop-place : goal.invariant-loop-place
invariant-loop-place l = Puts (map_of l.plane) (IsPlaceOf (take l.place-index l.places)) l.fn.cells.items l.cells.items
