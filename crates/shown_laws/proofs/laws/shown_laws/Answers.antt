use Rattle.shown_laws.proofs.Turning.{turns_of_clients}
use Rattle.shown_laws.proofs.ShownLaws.{shows_of_one_list}
use Rattle.shown_laws.proofs.laws.shown_laws.Goals as goal

pub returns-clause-turns : goal.returns-clause-turns
returns-clause-turns c = turns_of_clients

pub returns-clause-shown : goal.returns-clause-shown
returns-clause-shown c = shows_of_one_list
