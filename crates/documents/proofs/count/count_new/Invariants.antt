use Rattle.std.proofs.Common.{length, ◌+◌}
use Rattle.documents.proofs.Counts.{IsCounted}
use Rattle.documents.proofs.count.count_new.Given as goal

abbrev pub invariant-loop-step : goal.invariant-loop-step
invariant-loop-step l = IsCounted l.first l.second l.count l.left l.right

abbrev pub decreases-loop-step : goal.decreases-loop-step
decreases-loop-step l = length l.left + length l.right
