use Rattle.receipts.proofs.Steps.{receives}
use Rattle.receipts.proofs.ends.Pending.try_receive.Goals as goal

pub try_recv_as-requires-clause-rule : goal.try_recv_as-requires-clause-rule
try_recv_as-requires-clause-rule g c = (receives _ _ c.args.self.now.bound, λ items views h at. tt)
