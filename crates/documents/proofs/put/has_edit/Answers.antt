use Rattle.std.proofs.Common.{ℕ, subst, ◌∙◌}
use Rattle.documents.specs.Results.{IsAt, IsPlaceFor}
use Rattle.documents.proofs.Having.{has_nowhere, has_where}
use Rattle.documents.proofs.put.has_edit.Goals as goal

pub returns-in-Ok : goal.returns-in-Ok
returns-in-Ok c =
    let at : IsAt c.args.edits.now c.args.edit.now.stamp c.in-Ok.place = subst (λ (n : ℕ). IsAt c.args.edits.now n c.in-Ok.place) c.stamp.ensures c.in-Ok.ensures in
    c.same.ensures ∙ has_where c.args.edits.now c.args.edit.now c.index-edits-place.result c.in-Ok.place c.requires at c.index-edits-place.is

pub returns-in-Err : goal.returns-in-Err
returns-in-Err c = has_nowhere c.args.edits.now c.args.edit.now c.in-Err.field-0 c.requires (subst (λ (n : ℕ). IsPlaceFor c.args.edits.now n c.in-Err.field-0) c.stamp.ensures c.in-Err.ensures)
