use Rattle.square_store.proofs.Tables.{SlotsLeft}
use Rattle.square_store.proofs.table.SquareTable.find_in.Given as goal

abbrev pub invariant-loop-slots : goal.invariant-loop-slots
invariant-loop-slots g l = SlotsLeft l.self.nodes l.group l.tag l.node l.slots

abbrev pub decreases-loop-slots : goal.decreases-loop-slots
decreases-loop-slots g l = l.slots
