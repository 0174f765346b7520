use Rattle.document_bodies.proofs.BodyLaws.{are_body_laws}
use Rattle.document_bodies.proofs.laws.body_laws.Goals as goal

pub returns : goal.returns
returns c = record { laws = are_body_laws }
