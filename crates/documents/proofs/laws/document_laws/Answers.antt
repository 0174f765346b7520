use Rattle.documents.proofs.DocumentLaws.{are_document_laws}
use Rattle.documents.proofs.laws.document_laws.Goals as goal

pub returns : goal.returns
returns c = record { laws = are_document_laws }
