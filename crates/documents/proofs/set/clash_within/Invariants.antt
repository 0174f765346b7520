use Rattle.std.proofs.Common.{length}
use Rattle.documents.proofs.Distinct.{IsLeft}
use Rattle.documents.proofs.set.clash_within.Given as goal

abbrev pub invariant-loop-edit : goal.invariant-loop-edit
invariant-loop-edit l = IsLeft l.sorted l.left

abbrev pub decreases-loop-edit : goal.decreases-loop-edit
decreases-loop-edit l = length l.left
