use Rattle.std.proofs.Common.{rules}
use Rattle.inbox.proofs.Binding.{begins, binds}
use Rattle.inbox.proofs.ends.Drain.bound.Goals as goal

pub ruled-requires-clause-rule : goal.ruled-requires-clause-rule
ruled-requires-clause-rule g c = begins

pub another-requires-clause-rule : goal.another-requires-clause-rule
another-requires-clause-rule g c = binds _ _ g.J.Booked.label (search rules) (search rules)
