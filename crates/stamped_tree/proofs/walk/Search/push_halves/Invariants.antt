use Rattle.std.proofs.Common.{◌-◌, drop, take}
use Rattle.stamped_tree.specs.RowOrder.{IsHalved}
use Rattle.stamped_tree.specs.Sought.{seeks}
use Rattle.stamped_tree.proofs.walk.Search.push_halves.Given as goal

abbrev pub invariant-loop-index : goal.invariant-loop-index
invariant-loop-index l = IsHalved l.self.store.now (seeks l.self.sought.now) l.rows.level l.rows.top l.is_south (take (l.index - l.first) (drop l.first l.fn.band.items)) l.fn.band.items l.band.items
