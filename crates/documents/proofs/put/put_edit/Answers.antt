use Rattle.std.proofs.Common.{arith, ◌≡◌, true, false, ℕ, List, [], ◌∷◌, Some, refl, sym, ap, subst, ◌∙◌}
use Rattle.std.proofs.lemmas.Result.{err_from_is_err_and}
use Rattle.edit_stamps.specs.Edit.{PlaneEdit, is_edit}
use Rattle.documents.specs.Results.{IsAt, IsPlaceFor}
use Rattle.documents.specs.Sets.{DifferAt}
use Rattle.documents.proofs.Places.{another_there, found_at, none_at_place, put_in_place}
use Rattle.documents.proofs.Walks.{one_edit, two_edits}
use Rattle.documents.proofs.put.put_edit.Goals as goal

pub returns-then-not-same : goal.returns-then-not-same
returns-then-not-same c =
    let differ : is_edit c.index.result.now c.args.edit ≡ false = grind arith in
    let at : IsAt c.args.edits.now.items c.args.edit.stamp c.in-Ok.place =
    subst (λ (n : ℕ). IsAt c.args.edits.now.items n c.in-Ok.place) c.stamp.ensures (subst (λ (l : List PlaneEdit). IsAt l c.stamp.result c.in-Ok.place) c.deref.ensures.value c.in-Ok.ensures) in (
      c.stamp-then-not-same.ensures,
      subst (DifferAt c.args.edits.now.items (c.args.edit ∷ [])) (sym c.stamp-then-not-same.ensures)
          (another_there c.args.edits.now.items c.args.edit c.index.result.now c.in-Ok.place c.requires at c.index.ensures (two_edits c.index.result.now c.args.edit differ)),
      refl,
    )

pub returns-else-not-same : goal.returns-else-not-same
returns-else-not-same c =
    let same : is_edit c.index.result.now c.args.edit ≡ true = grind arith in
    let at : IsAt c.args.edits.now.items c.args.edit.stamp c.in-Ok.place =
    subst (λ (n : ℕ). IsAt c.args.edits.now.items n c.in-Ok.place) c.stamp.ensures (subst (λ (l : List PlaneEdit). IsAt l c.stamp.result c.in-Ok.place) c.deref.ensures.value c.in-Ok.ensures) in (
      found_at c.args.edits.now.items c.args.edit.stamp c.in-Ok.place c.index.result.now c.requires at c.index.ensures ∙ ap Some (one_edit c.index.result.now c.args.edit same),
      refl,
    )

pub returns-in_ok-insert-in-Err : goal.returns-in_ok-insert-in-Err
returns-in_ok-insert-in-Err c =
    let is : IsPlaceFor c.args.edits.now.items c.args.edit.stamp c.in-Err.place =
    subst (λ (n : ℕ). IsPlaceFor c.args.edits.now.items n c.in-Err.place) c.stamp.ensures (subst (λ (l : List PlaneEdit). IsPlaceFor l c.stamp.result c.in-Err.place) c.deref.ensures.value c.in-Err.ensures) in
    put_in_place c.args.edits.now.items c.insert.new.self.items c.args.edit c.in-Err.place c.requires is c.in_ok-insert-in-Err.ensures.items

pub returns-in_err-insert-in-Err : goal.returns-in_err-insert-in-Err
returns-in_err-insert-in-Err c =
    let p = err_from_is_err_and c.from_residual.result c.from_residual.ensures.1 in
    let is : IsPlaceFor c.args.edits.now.items c.args.edit.stamp c.in-Err.place =
    subst (λ (n : ℕ). IsPlaceFor c.args.edits.now.items n c.in-Err.place) c.stamp.ensures (subst (λ (l : List PlaneEdit). IsPlaceFor l c.stamp.result c.in-Err.place) c.deref.ensures.value c.in-Err.ensures) in
    rw (p.1, p.2) (none_at_place c.args.edits.now.items c.args.edit.stamp c.in-Err.place is, c.in_err-insert-in-Err.ensures.items)
