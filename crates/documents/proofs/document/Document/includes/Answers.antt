use Rattle.std.proofs.Common.{ap}
use Rattle.documents.specs.Documents.{DocumentState}
use Rattle.documents.proofs.Counts.{part_told}
use Rattle.documents.proofs.document.Document.includes.Goals as goal

pub returns : goal.returns
returns c =
    part_told c.args.self.now.edits c.args.other.now.edits c.deref.result.now c.deref-2.result.now c.count_new.result
    c.self.invariant.ascending c.other.invariant.ascending
    c.deref.ensures.value c.deref-2.ensures.value
    (ap (λ (d : DocumentState). d.edits) c.self.view_is) (ap (λ (d : DocumentState). d.edits) c.other.view_is) c.count_new.ensures
