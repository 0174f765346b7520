use Rattle.std.proofs.Common.{length, ◌+◌}
use Rattle.documents.proofs.Walks.{IsWalked}
use Rattle.documents.proofs.union.union_of.Given as goal

abbrev pub invariant-loop-step : goal.invariant-loop-step
invariant-loop-step l = IsWalked l.first l.second l.all.items l.left l.right

abbrev pub decreases-loop-step : goal.decreases-loop-step
decreases-loop-step l = length l.left + length l.right
