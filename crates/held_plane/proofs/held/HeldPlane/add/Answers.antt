use Rattle.std.proofs.Common.{◌∙◌, ap, subst, sym}
use Rattle.stamped_tree.specs.Plane.{StoresRootAlone, map_of}
use Rattle.held_plane.proofs.WantedLaws.{full_of_needs}
use Rattle.held_plane.proofs.held.HeldPlane.add.Goals as goal

pub returns-in_ok-put_copy-in-Err-StoreFull-clause-full : goal.returns-in_ok-put_copy-in-Err-StoreFull-clause-full
returns-in_ok-put_copy-in-Err-StoreFull-clause-full c =
    let copy = c.self-in-Err-StoreFull.inside.plane in
    let is = c.self-in-Err-StoreFull.view_is in
    let copied = c.in_ok-put_copy-in-Err-StoreFull.ensures in
    let again = c.add_to-in-Err-StoreFull in
    λ e. full_of_needs c.args.self.now copy again.new.plane c.args.added
    (λ at. ap (λ p. map_of p at) is ∙ copied.before.map at ∙ c.in-Err-StoreFull.ensures.grows.map at ∙ ap (λ p. map_of p at) c.self.view_is)
    (subst StoresRootAlone (sym is) copied.squares) again.ensures.grows.store again.ensures.pieces (again.ensures.full e)
