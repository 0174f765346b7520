use Rattle.client_session.proofs.ToldLaws.{changed_each, replaced_each, shows_each, shows_what_it_holds}
use Rattle.client_session.proofs.laws.session_laws.Goals as goal

pub returns-clause-holds : goal.returns-clause-holds
returns-clause-holds c = shows_what_it_holds

pub returns-clause-heard : goal.returns-clause-heard
returns-clause-heard c = shows_each

pub returns-clause-changed : goal.returns-clause-changed
returns-clause-changed c = changed_each

pub returns-clause-replaced : goal.returns-clause-replaced
returns-clause-replaced c = replaced_each
