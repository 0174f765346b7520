use Rattle.inbox.proofs.Binding.{takes, learns}
use Rattle.inbox.proofs.Ending.{all_taken}
use Rattle.inbox.proofs.ends.Drain.take.Goals as goal

pub pop_as-taken-requires-clause-rule : goal.pop_as-taken-requires-clause-rule
pop_as-taken-requires-clause-rule g c = (takes _ _ c.args.self.now.gets, learns _ _ c.args.self.now.gets)

pub returns-then-is_none-clause-none : goal.returns-then-is_none-clause-none
returns-then-is_none-clause-none g c = all_taken _ _ _ _ c.pop_as-taken.ensures.rule
