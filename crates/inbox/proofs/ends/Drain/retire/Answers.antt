use Rattle.inbox.proofs.Binding.{retires}
use Rattle.inbox.proofs.ends.Drain.retire.Goals as goal

pub absorb-requires-clause-rule : goal.absorb-requires-clause-rule
absorb-requires-clause-rule c = retires _ _ _ _ c.args.post.seat c.args.self.now.gets c.args.post.sends c.requires.next
