use Rattle.seat_server.proofs.OneListLaws.{tells_of_one_list}
use Rattle.seat_server.proofs.laws.one_list_laws.Goals as goal

pub returns : goal.returns
returns c = tells_of_one_list
