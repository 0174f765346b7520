use Rattle.std.proofs.Common.{◌-◌, length}
use Rattle.square_store.proofs.Tables.{IsAhead}
use Rattle.square_store.proofs.table.SquareTable.find.Given as goal

abbrev pub invariant-loop-place : goal.invariant-loop-place
invariant-loop-place g l = IsAhead l.self-inside.groups.items l.self.nodes l.tag l.node l.at

abbrev pub decreases-loop-place : goal.decreases-loop-place
decreases-loop-place g l = length l.self-inside.groups.items - l.at
