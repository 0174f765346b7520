use Rattle.inbox.proofs.Binding.{learns}
use Rattle.inbox.proofs.ends.Drain.settle.Goals as goal

pub learn_as-requires-clause-rule : goal.learn_as-requires-clause-rule
learn_as-requires-clause-rule c = learns _ _ c.args.self.now.gets
