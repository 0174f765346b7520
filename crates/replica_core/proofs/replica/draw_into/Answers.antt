use Rattle.std.proofs.Common.{◌≡◌, [], ◌∷◌, Err, ◌∙◌, ap, sym, subst}
use Rattle.std.specs.Prelude.{IfErr}
use Rattle.std.proofs.lemmas.Result.{err_from_is_err_and}
use Rattle.edit_stamps.specs.Edit.{writes_of}
use Rattle.stamped_writes.specs.Write.{greater}
use Rattle.edit_stamps.proofs.WriteLaws.{greater-unwritten}
use Rattle.stamped_tree.specs.Plane.{map_of}
use Rattle.held_plane.specs.Wanted.{IsJoinedSoFar}
use Rattle.replica_core.specs.declared.fault.Fault.TheVariants.{StoreFull}
use Rattle.replica_core.specs.Room.{IsFullOf}
use Rattle.replica_core.proofs.replica.draw_into.Goals as goal

pub returns-clause-map : goal.returns-clause-map
returns-clause-map c p =
    let joins = rw c.from_ref.ensures.value at c.in_ok-root.ensures.joins.joins p in
    c.set_root.ensures.map p ∙ joins ∙ ap (greater (map_of c.args.plane.now p)) (greater-unwritten (writes_of c.args.edit.now p))

pub returns-in_err-root-clause-full : goal.returns-in_err-root-clause-full
returns-in_err-root-clause-full c =
    let is = err_from_is_err_and c.from_residual-in_err-root.result c.from_residual-in_err-root.ensures.1 in
    subst (λ r. IfErr r (λ fault. fault ≡ StoreFull → IsFullOf c.args.plane.now c.add.new.plane (IsJoinedSoFar (map_of c.args.plane.now) (c.args.edit.now ∷ [])))) (sym (is.1 ∙ ap Err is.2))
    (λ full. subst (λ edits. IsFullOf c.args.plane.now c.add.new.plane (IsJoinedSoFar (map_of c.args.plane.now) edits)) c.from_ref.ensures.value (c.in_err-root.ensures.full full))
