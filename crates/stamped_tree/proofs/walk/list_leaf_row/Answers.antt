use Rattle.std.proofs.Common.{◌≡◌, ◌+◌, ◌++◌, map, subst, arith}
use Rattle.stamped_tree.specs.LeafKind.{plane_grid}
use Rattle.stamped_tree.specs.RowOrder.{row_cells, sought_state}
use Rattle.stamped_tree.specs.Sought.{seeks}
use Rattle.stamped_tree.specs.Walk.{cell_of_plane}
use Rattle.stamped_tree.proofs.walk.list_leaf_row.Goals as goal

pub returns : goal.returns
returns c =
    let a = c.args in
    let all : c.loop-column.column ≡ 8 = omega arith in
    subst (λ n. c.loop-column.found.items ≡ a.found.now.items ++ map cell_of_plane (row_cells (λ u. sought_state (seeks a.sought.now) (a.corner.left + u) (a.corner.top + a.row) (plane_grid a.leaf.now u a.row).state) a.corner.left (a.corner.top + a.row) n)) all c.loop-column.invariant
