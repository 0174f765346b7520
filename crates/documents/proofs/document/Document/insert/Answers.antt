use Rattle.std.proofs.Common.{[], ◌∷◌, arith}
use Rattle.delta_exchange.specs.Delta.{AreTellable}
use Rattle.documents.specs.Documents.{DocumentState}
use Rattle.documents.proofs.Made.{inserted, put_is}
use Rattle.documents.proofs.document.Document.insert.Goals as goal

pub invariant_of-self : goal.invariant_of-self
invariant_of-self c =
    let a : DocumentState = record { rule = c.self.inside.rule; edits = c.self.inside.edits.items } in
    let told : AreTellable c.self.inside.rule.states (c.args.edit ∷ []) = c.is_under.ensures.under (grind arith) in
    put_is a c.args.edit c.put_edit.new.edits.items c.put_edit.result c.self.invariant told c.put_edit.ensures

pub returns : goal.returns
returns c =
    let a : DocumentState = record { rule = c.self.inside.rule; edits = c.self.inside.edits.items } in
    let told : AreTellable c.self.inside.rule.states (c.args.edit ∷ []) = c.is_under.ensures.under (grind arith) in
    inserted a c.args.self.now c.args.edit c.put_edit.new.edits.items c.put_edit.result c.self.invariant c.self.view_is told c.put_edit.ensures
