use Rattle.std.proofs.Common.{arith, ◌≡◌, ◌+◌, ◌∷◌, [], ◌++◌, take, List, sym, ◌∙◌, ap, subst}
use Rattle.std.proofs.lemmas.List.{take_more}
use Rattle.edit_stamps.specs.Edit.{PlaneEdit}
use Rattle.document_bodies.specs.Bodies.{AreEditsUnder}
use Rattle.documents.proofs.Under.{under_push}
use Rattle.documents.proofs.set.are_under.Goals as goal

pub loop-edit-preserved : goal.loop-edit-preserved
loop-edit-preserved c =
    let e : PlaneEdit = c.edit-item.result in
    let more : take (c.loop-edit.edit-index + 1) c.args.edits.now ≡ take c.loop-edit.edit-index c.args.edits.now ++ e ∷ [] =
    take_more c.args.edits.now c.loop-edit.edit-index e (omega arith) ∙ ap (λ (f : PlaneEdit). take c.loop-edit.edit-index c.args.edits.now ++ f ∷ []) (sym c.edit-item.is) in
    subst (λ (l : List PlaneEdit). AreEditsUnder c.args.rule.now l) (sym more) (under_push c.args.rule.now (take c.loop-edit.edit-index c.args.edits.now) e c.loop-edit.invariant (c.is_under.ensures.under (grind arith)))
