use Rattle.std.proofs.Common.{◌≡◌, ◌+◌, ◌++◌, map}
use Rattle.stamped_tree.specs.LeafKind.{plane_grid}
use Rattle.stamped_tree.specs.RowOrder.{row_cells, sought_state}
use Rattle.stamped_tree.specs.Sought.{seeks}
use Rattle.stamped_tree.specs.Walk.{cell_of_plane}
use Rattle.stamped_tree.proofs.walk.list_leaf_row.Given as goal

abbrev pub invariant-loop-column : goal.invariant-loop-column
invariant-loop-column l =
    l.found.items ≡ l.fn.found.items ++ map cell_of_plane (row_cells (λ u. sought_state (seeks l.sought) (l.corner.left + u) (l.corner.top + l.row) (plane_grid l.leaf u l.row).state) l.corner.left (l.corner.top + l.row) l.column)
