use Rattle.std.proofs.Common.{◌≡◌, arith}
use Rattle.documents.specs.Documents.{DocumentState}
use Rattle.documents.proofs.Under.{merged, merged_is}
use Rattle.documents.proofs.document.Document.merge.Goals as goal

pub invariant_of-result : goal.invariant_of-result
invariant_of-result c =
    let a : DocumentState = record { rule = c.self.inside.rule; edits = c.self.inside.edits.items } in
    let b : DocumentState = record { rule = c.other.inside.rule; edits = c.other.inside.edits.items } in
    let same : c.self.inside.rule ≡ c.other.inside.rule = c.same.ensures.0 (grind arith) in
    merged_is a b c.deref-3.result.now c.deref-4.result.now c.in_ok-edits.edits.items c.self.invariant c.other.invariant same c.deref-3.ensures.value c.deref-4.ensures.value c.in_ok-edits.ensures

pub returns : goal.returns
returns c =
    let a : DocumentState = record { rule = c.self.inside.rule; edits = c.self.inside.edits.items } in
    let b : DocumentState = record { rule = c.other.inside.rule; edits = c.other.inside.edits.items } in
    let same : c.self.inside.rule ≡ c.other.inside.rule = c.same.ensures.0 (grind arith) in
    merged a b c.args.self.now c.args.other.now c.deref-3.result.now c.deref-4.result.now c.in_ok-edits.edits.items c.self.invariant c.other.invariant c.self.view_is c.other.view_is
    same c.deref-3.ensures.value c.deref-4.ensures.value c.in_ok-edits.ensures
