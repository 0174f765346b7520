use Rattle.std.proofs.Common.{◌≡◌, ◌+◌, ◌++◌, map}
use Rattle.stamped_tree.specs.RowOrder.{band_row, strung}
use Rattle.stamped_tree.specs.Sought.{seeks}
use Rattle.stamped_tree.specs.Walk.{cell_of_plane}
use Rattle.stamped_tree.proofs.walk.Search.list_leaves.Given as goal

abbrev pub invariant-loop-row : goal.invariant-loop-row
invariant-loop-row l = l.found.items ≡ l.fn.found.items ++ map cell_of_plane (strung (λ v. band_row l.self.store.now (seeks l.self.sought.now) 0 l.band v (l.top + v)) l.row)
