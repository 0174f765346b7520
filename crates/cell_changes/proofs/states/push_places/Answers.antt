use Rattle.std.proofs.Common.{◌∙◌, ◌++◌, ◌∷◌, [], ap, refl, arith, pos}
use Rattle.pattern_cells.specs.declared.cell.Cell.{Cell}
use Rattle.stamped_tree.specs.Plane.{map_of}
use Rattle.cell_changes.proofs.Putting.{next_place}
use Rattle.cell_changes.proofs.states.push_places.Goals as goal

pub loop-place-preserved : goal.loop-place-preserved
loop-place-preserved c =
    next_place (map_of c.args.plane.now) c.args.places.now c.loop-place.place-index (record { x = pos 0; y = pos 0; state = 0 }) _ c.args.cells.now.items c.loop-place.cells.items c.push.new.self.items (omega arith) refl
    (c.in_ok-push.ensures.items ∙ ap (λ (d : Cell). c.loop-place.cells.items ++ d ∷ []) c.now_in.ensures) c.loop-place.invariant
