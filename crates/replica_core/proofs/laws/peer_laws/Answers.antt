use Rattle.replica_core.proofs.PeerLaws.{holds_what_it_took, peers_agree}
use Rattle.replica_core.proofs.laws.peer_laws.Goals as goal

pub returns-clause-holds : goal.returns-clause-holds
returns-clause-holds c = holds_what_it_took

pub returns-clause-agree : goal.returns-clause-agree
returns-clause-agree c = peers_agree
