use Rattle.std.proofs.Common.{[], ◌∷◌, sym, subst}
use Rattle.std.specs.Prelude.{Option, IfSome}
use Rattle.delta_exchange.specs.Delta.{AreTellable}
use Rattle.edit_stamps.specs.Edit.{PlaneEdit}
use Rattle.document_bodies.specs.Bodies.{AreEditsUnder}
use Rattle.documents.proofs.Under.{under_push}
use Rattle.documents.proofs.gathering.push_told.Goals as goal

pub returns-in_ok-push-in-Ok-Some-clause-under : goal.returns-in_ok-push-in-Ok-Some-clause-under
returns-in_ok-push-in-Ok-Some-clause-under c under =
    subst (AreEditsUnder c.args.rule.now) (sym c.in_ok-push-in-Ok-Some.ensures.items)
    (under_push c.args.rule.now c.args.edits.now.items c.in-Ok-Some.edit under
    (subst (λ (o : Option PlaneEdit). IfSome o (λ e. AreTellable c.args.rule.now.states (e ∷ []))) c.in-Ok-Some.field-0-is c.in-Ok-Some.ensures.under))
