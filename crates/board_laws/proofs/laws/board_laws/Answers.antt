use Rattle.board_laws.proofs.TieLaws.{is_tied}
use Rattle.board_laws.proofs.laws.board_laws.Goals as goal

pub returns : goal.returns
returns c = is_tied
