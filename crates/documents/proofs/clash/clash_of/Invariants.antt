use Rattle.std.proofs.Common.{length, ◌+◌}
use Rattle.documents.proofs.Walks.{IsPassed}
use Rattle.documents.proofs.clash.clash_of.Given as goal

abbrev pub invariant-loop-step : goal.invariant-loop-step
invariant-loop-step l = IsPassed l.first l.second l.left l.right

abbrev pub decreases-loop-step : goal.decreases-loop-step
decreases-loop-step l = length l.left + length l.right
