use Rattle.inbox.proofs.Binding.{hires}
use Rattle.inbox.proofs.ends.Drain.post.Goals as goal

pub another-pass-requires-clause-rule : goal.another-pass-requires-clause-rule
another-pass-requires-clause-rule c = hires _ _ c.args.self.now.gets
