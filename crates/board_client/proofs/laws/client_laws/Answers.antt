use Rattle.board_client.proofs.ClientLaws.{draws_above, holds_what_it_heard}
use Rattle.board_client.proofs.laws.client_laws.Goals as goal

pub returns-clause-heard : goal.returns-clause-heard
returns-clause-heard c = holds_what_it_heard

pub returns-clause-above : goal.returns-clause-above
returns-clause-above c = draws_above
