use Rattle.document_bodies.proofs.NewestLaws.{are_counter_laws, are_newest_laws}
use Rattle.document_bodies.proofs.laws.newest_laws.Goals as goal

pub returns-clause-laws : goal.returns-clause-laws
returns-clause-laws c = are_newest_laws

pub returns-clause-counters : goal.returns-clause-counters
returns-clause-counters c = are_counter_laws
