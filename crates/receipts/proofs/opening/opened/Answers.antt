use Rattle.std.proofs.Common.{rules}
use Rattle.receipts.proofs.Steps.{begins, binds}
use Rattle.receipts.proofs.opening.opened.Goals as goal

pub bounded_with-requires-clause-rule : goal.bounded_with-requires-clause-rule
bounded_with-requires-clause-rule g c = begins

pub another-other-requires-clause-rule : goal.another-other-requires-clause-rule
another-other-requires-clause-rule g c = binds _ _ g.J.Submitted.topic (search rules)
