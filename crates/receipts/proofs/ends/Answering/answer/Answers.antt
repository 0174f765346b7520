use Rattle.receipts.proofs.Steps.{sends}
use Rattle.receipts.proofs.ends.Answering.answer.Goals as goal

pub try_send_as-requires-clause-rule : goal.try_send_as-requires-clause-rule
try_send_as-requires-clause-rule g c = (sends _ _ _ _ c.args.self.bound c.requires, λ items views h at. tt)
