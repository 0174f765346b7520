use Rattle.std.proofs.Common.{subst}
use Rattle.stamped_tree.specs.Plane.{map_of}
use Rattle.cell_changes.specs.Put.{IsPlaceOf, Puts}
use Rattle.cell_changes.proofs.Joining.{watches_both, watches_planes}
use Rattle.cell_changes.proofs.watched.Watched.of_planes.Goals as goal

pub returns-clause-joined : goal.returns-clause-joined
returns-clause-joined c =
    watches_planes (map_of c.args.plane.now) (map_of c.args.other.now) c.in_ok-cells.cells.items c.in_ok-others.others.items c.push_places.new.cells.items
    c.in_ok-cells.ensures c.in_ok-others.ensures
    (subst (λ others. Puts (map_of c.args.plane.now) (IsPlaceOf others) c.in_ok-cells.cells.items c.push_places.new.cells.items) c.deref.ensures.value c.in_ok-push_places.ensures)

pub returns-clause-replaced : goal.returns-clause-replaced
returns-clause-replaced c =
    watches_both (map_of c.args.plane.now) (map_of c.args.other.now) c.in_ok-cells.cells.items c.in_ok-others.others.items c.push_places.new.cells.items
    c.in_ok-cells.ensures c.in_ok-others.ensures
    (subst (λ others. Puts (map_of c.args.plane.now) (IsPlaceOf others) c.in_ok-cells.cells.items c.push_places.new.cells.items) c.deref.ensures.value c.in_ok-push_places.ensures)
