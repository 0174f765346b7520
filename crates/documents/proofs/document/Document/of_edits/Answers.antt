use Rattle.std.proofs.Common.{List, arith, subst}
use Rattle.edit_stamps.specs.Edit.{PlaneEdit}
use Rattle.document_bodies.specs.Bodies.{AreEditsUnder}
use Rattle.documents.proofs.Made.{made, made_is, not_made}
use Rattle.documents.proofs.document.Document.of_edits.Goals as goal

pub returns-in-Err : goal.returns-in-Err
returns-in-Err c =
    let under : AreEditsUnder c.args.rule.now c.args.edits.items = subst (λ (l : List PlaneEdit). AreEditsUnder c.args.rule.now l) c.deref.ensures.value (c.are_under.ensures.under (grind arith)) in
    not_made c.args.rule.now c.args.edits.items c.in-Err.stamp under c.in-Err.ensures

pub invariant_of-result : goal.invariant_of-result
invariant_of-result c =
    let under : AreEditsUnder c.args.rule.now c.args.edits.items = subst (λ (l : List PlaneEdit). AreEditsUnder c.args.rule.now l) c.deref.ensures.value (c.are_under.ensures.under (grind arith)) in
    made_is c.args.rule.now c.args.edits.items c.in-Ok.edits.items c.states-states.ensures.rule under c.in-Ok.ensures

pub returns-in-Ok : goal.returns-in-Ok
returns-in-Ok c =
    let under : AreEditsUnder c.args.rule.now c.args.edits.items = subst (λ (l : List PlaneEdit). AreEditsUnder c.args.rule.now l) c.deref.ensures.value (c.are_under.ensures.under (grind arith)) in
    made c.args.rule.now c.args.edits.items c.in-Ok.edits.items c.states-states.ensures.rule under c.in-Ok.ensures
