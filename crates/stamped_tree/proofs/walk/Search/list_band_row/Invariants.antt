use Rattle.std.proofs.Common.{◌≡◌, ◌+◌, ◌++◌, map, take}
use Rattle.stamped_tree.specs.RowOrder.{band_row}
use Rattle.stamped_tree.specs.Sought.{seeks}
use Rattle.stamped_tree.specs.Walk.{cell_of_plane}
use Rattle.stamped_tree.proofs.walk.Search.list_band_row.Given as goal

abbrev pub invariant-loop-square : goal.invariant-loop-square
invariant-loop-square l = l.found.items ≡ l.fn.found.items ++ map cell_of_plane (band_row l.self.store.now (seeks l.self.sought.now) 0 (take l.square-index l.band) l.row (l.top + l.row))
