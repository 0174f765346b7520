use Rattle.std.proofs.Common.{ap, ◌∙◌}
use Rattle.board.specs.Sights.{label_of}
use Rattle.receipts.specs.Topics.{Topic}
use Rattle.inbox.proofs.Binding.{puts, learns_put}
use Rattle.inbox.proofs.ends.Post.put.Goals as goal

pub push_as-requires-clause-rule : goal.push_as-requires-clause-rule
push_as-requires-clause-rule g c =
    let for_board = ap (λ (t : Topic). label_of t.origin) c.in-Ok.ensures.answering ∙ c.requires.label in
    (puts _ _ _ _ c.args.self.now.sends for_board, learns_put _ _ _ c.args.self.now.sends)
