use Rattle.std.proofs.Common.{[], ◌∷◌, ◌∙◌, Ok, Err, Result, sym, ap, subst}
use Rattle.std.proofs.lemmas.Result.{err_from_is_err_and}
use Rattle.generations_rule.specs.Refusal.{Answers}
use Rattle.edit_stamps.specs.Edit.{PlaneEdit}
use Rattle.document_bodies.specs.declared.fault.BodyFault.{BodyFault}
use Rattle.document_bodies.specs.Reading.{IsWant, single}
use Rattle.document_bodies.proofs.BodyReads.{only_edit}
use Rattle.document_bodies.proofs.reading.edit_in.Goals as goal

pub returns-in_err-edits-clause-only : goal.returns-in_err-edits-clause-only
returns-in_err-edits-clause-only c meant told e =
    let p = err_from_is_err_and c.from_residual.result c.from_residual.ensures.1 in
    rw (p.1, p.2) (only_edit (Err c.in_err-edits.field-0.0) meant (c.in_err-edits.ensures.only (meant ∷ []) told e))

pub returns-clause-only : goal.returns-clause-only
returns-clause-only c meant told e =
    subst (λ (result : Result PlaneEdit BodyFault). Answers IsWant result (Ok meant)) (sym (c.single.ensures ∙ ap single c.into_vec.ensures))
    (only_edit (Ok c.in_ok-edits.edits) meant (c.in_ok-edits.ensures.only (meant ∷ []) told e))
