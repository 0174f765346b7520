use Rattle.std.proofs.Common.{◌≡◌, take}
use Rattle.documents.specs.Documents.{document_text}
use Rattle.documents.proofs.document.Document.text.Given as goal

abbrev pub invariant-loop-edit : goal.invariant-loop-edit
invariant-loop-edit l = l.text.items ≡ document_text l.self.rule (take l.edit-index l.self.edits)
