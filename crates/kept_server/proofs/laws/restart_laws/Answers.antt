use Rattle.kept_server.proofs.Restarting.{tells_across_restarts}
use Rattle.kept_server.proofs.laws.restart_laws.Goals as goal

pub returns : goal.returns
returns c = tells_across_restarts
