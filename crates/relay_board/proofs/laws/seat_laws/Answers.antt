use Rattle.relay_board.proofs.StampLaws.{keeps_stamps}
use Rattle.relay_board.proofs.laws.seat_laws.Goals as goal

pub returns : goal.returns
returns c = record { stamps = keeps_stamps }
