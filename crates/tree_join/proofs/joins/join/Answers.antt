use Rattle.std.proofs.Common.{◌∙◌, ap, subst, sym}
use Rattle.stamped_writes.specs.Write.{joined}
use Rattle.stamped_tree.specs.MapPieces.{AddsPiecesOfMap}
use Rattle.stamped_tree.specs.Plane.{StampedPlane, map_of, rooted}
use Rattle.tree_join.proofs.joins.join.Goals as goal

pub returns-in_err-part-clause-pieces : goal.returns-in_err-part-clause-pieces
returns-in_err-part-clause-pieces c =
    let p = c.args.plane.now in
    let other = c.args.other.now in
    let new = c.add_joined.new.plane in
    let is = c.part-root.ensures ∙ ap (λ square. square.part) c.root.ensures.square in
    subst (λ r. AddsPiecesOfMap p new (joined (map_of (rooted p r)) (map_of other))) is c.add_joined.ensures.pieces

pub returns-clause-pieces : goal.returns-clause-pieces
returns-clause-pieces c =
    let p = c.args.plane.now in
    let other = c.args.other.now in
    let new = c.add_joined.new.plane in
    let is = c.part-root.ensures ∙ ap (λ square. square.part) c.root.ensures.square in
    subst (λ (n : StampedPlane). AddsPiecesOfMap p n (joined (map_of p) (map_of other))) (sym c.set_root.ensures) (subst (λ r. AddsPiecesOfMap p new (joined (map_of (rooted p r)) (map_of other))) is c.add_joined.ensures.pieces)
