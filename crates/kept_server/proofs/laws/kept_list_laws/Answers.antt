use Rattle.kept_server.proofs.Told.{tells_of_kept_list}
use Rattle.kept_server.proofs.laws.kept_list_laws.Goals as goal

pub returns : goal.returns
returns c = tells_of_kept_list
