use Rattle.std.proofs.Common.{false, ℕ, Option, ap, not, sym, subst, ◌∙◌}
use Rattle.std.specs.Option.{option_map_or}
use Rattle.edit_stamps.specs.Edit.{PlaneEdit, is_edit}
use Rattle.documents.specs.Results.{IsAt, IsPlaceFor}
use Rattle.documents.proofs.Places.{found_at, none_at_place}
use Rattle.documents.proofs.put.has_another.Goals as goal

pub returns-in-Ok : goal.returns-in-Ok
returns-in-Ok c =
    let at : IsAt c.args.edits.now c.args.edit.now.stamp c.in-Ok.place = subst (λ (n : ℕ). IsAt c.args.edits.now n c.in-Ok.place) c.stamp.ensures c.in-Ok.ensures in
    let found = found_at c.args.edits.now c.args.edit.now.stamp c.in-Ok.place c.index-edits-place.result c.requires at c.index-edits-place.is in
    ap not c.same.ensures ∙ sym (ap (λ (o : Option PlaneEdit). option_map_or (λ f. not (is_edit f c.args.edit.now)) o false) found)

pub returns-in-Err : goal.returns-in-Err
returns-in-Err c =
    let none = none_at_place c.args.edits.now c.args.edit.now.stamp c.in-Err.field-0 (subst (λ (n : ℕ). IsPlaceFor c.args.edits.now n c.in-Err.field-0) c.stamp.ensures c.in-Err.ensures) in
    sym (ap (λ (o : Option PlaneEdit). option_map_or (λ f. not (is_edit f c.args.edit.now)) o false) none)
