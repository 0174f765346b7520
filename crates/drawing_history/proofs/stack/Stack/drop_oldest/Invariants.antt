use Rattle.std.proofs.Common.{length}
use Rattle.drawing_history.proofs.Dropping.{DropsOnly}
use Rattle.drawing_history.proofs.stack.Stack.drop_oldest.Given as goal

abbrev pub invariant-loop-self : goal.invariant-loop-self
invariant-loop-self l = DropsOnly l.fn.self l.self

abbrev pub decreases-loop-self : goal.decreases-loop-self
decreases-loop-self l = length l.self
