use Rattle.std.proofs.Common.{◌∙◌, ap, pos, sym, subst, Err}
use Rattle.generations_rule.specs.Place.{moved}
use Rattle.stamped_writes.specs.Write.{joined}
use Rattle.square_store.specs.Pieces.{AddsPiecesOfGrid}
use Rattle.square_store.proofs.Made.{full_as, told}
use Rattle.square_store.proofs.PieceLaws.{adds_as}
use Rattle.stamped_tree.specs.Full.{IsFullStoreFor}
use Rattle.stamped_tree.specs.LeafKind.{plane_grid}
use Rattle.stamped_tree.specs.MapPieces.{square_of}
use Rattle.stamped_tree.specs.Plane.{map_of, rooted}
use Rattle.stamped_tree.specs.Tree.{plane_corner}
use Rattle.tree_join.specs.Squares.{IsSquareJoin, join_grid}
use Rattle.tree_join.proofs.Pieces.{joined_read, joined_square, kept_same}
use Rattle.tree_join.proofs.joins.add_joined.Goals as goal

pub returns-in_err-added-clause-pieces : goal.returns-in_err-added-clause-pieces
returns-in_err-added-clause-pieces c =
    let p = rooted c.args.plane.now c.args.part in
    let other = c.args.other.now in
    let is = c.part-there.ensures ∙ ap (λ square. square.part) c.root.ensures.square in
    let wanted = square_of (joined (map_of p) (map_of other)) in
    adds_as plane_grid 8 p.store c.join_roots-added.new.plane.store 28 (join_grid p.store other.store 28 c.args.part other.root) wanted (joined_square p other) (subst (λ r. AddsPiecesOfGrid plane_grid 8 p.store c.join_roots-added.new.plane.store 28 (join_grid p.store other.store 28 c.args.part r)) is c.join_roots-added.ensures.pieces)

pub returns-clause-pieces : goal.returns-clause-pieces
returns-clause-pieces c =
    let p = rooted c.args.plane.now c.args.part in
    let other = c.args.other.now in
    let is = c.part-there.ensures ∙ ap (λ square. square.part) c.root.ensures.square in
    let wanted = square_of (joined (map_of p) (map_of other)) in
    adds_as plane_grid 8 p.store c.join_roots-added.new.plane.store 28 (join_grid p.store other.store 28 c.args.part other.root) wanted (joined_square p other) (subst (λ r. AddsPiecesOfGrid plane_grid 8 p.store c.join_roots-added.new.plane.store 28 (join_grid p.store other.store 28 c.args.part r)) is c.join_roots-added.ensures.pieces)

pub returns-in_err-added-clause-full : goal.returns-in_err-added-clause-full
returns-in_err-added-clause-full c =
    let p = rooted c.args.plane.now c.args.part in
    let other = c.args.other.now in
    let is = c.part-there.ensures ∙ ap (λ square. square.part) c.root.ensures.square in
    let wanted = square_of (joined (map_of p) (map_of other)) in
    λ e. full_as plane_grid 8 28 wanted (join_grid p.store other.store 28 c.args.part other.root) (λ u v hu hv. sym (joined_square p other u v hu hv)) c.join_roots-added.new.plane.store (subst (λ r. IsFullStoreFor c.join_roots-added.new.plane.store 28 (join_grid p.store other.store 28 c.args.part r)) is (c.join_roots-added.ensures.full (c.in_err-added.was ∙ ap (λ e. Err e) (told _ _ _ c.from_residual.ensures.1 e)))).full

pub returns-in_err-added-clause-kept : goal.returns-in_err-added-clause-kept
returns-in_err-added-clause-kept c =
    let p = rooted c.args.plane.now c.args.part in
    let other = c.args.other.now in
    let is = c.part-there.ensures ∙ ap (λ square. square.part) c.root.ensures.square in
    let wanted = square_of (joined (map_of p) (map_of other)) in
    λ same. kept_same p c.join_roots-added.new.plane.store wanted c.requires c.plane_laws.ensures.store c.plane_laws-2.ensures.parts c.join_roots-added.ensures.grows.store (λ u v hu hv. sym (same (moved plane_corner (pos u) (pos v))))
    (adds_as plane_grid 8 p.store c.join_roots-added.new.plane.store 28 (join_grid p.store other.store 28 c.args.part other.root) wanted (joined_square p other) (subst (λ r. AddsPiecesOfGrid plane_grid 8 p.store c.join_roots-added.new.plane.store 28 (join_grid p.store other.store 28 c.args.part r)) is c.join_roots-added.ensures.pieces))

pub returns-clause-kept : goal.returns-clause-kept
returns-clause-kept c =
    let p = rooted c.args.plane.now c.args.part in
    let other = c.args.other.now in
    let is = c.part-there.ensures ∙ ap (λ square. square.part) c.root.ensures.square in
    let wanted = square_of (joined (map_of p) (map_of other)) in
    λ same. kept_same p c.join_roots-added.new.plane.store wanted c.requires c.plane_laws.ensures.store c.plane_laws-2.ensures.parts c.join_roots-added.ensures.grows.store (λ u v hu hv. sym (same (moved plane_corner (pos u) (pos v))))
    (adds_as plane_grid 8 p.store c.join_roots-added.new.plane.store 28 (join_grid p.store other.store 28 c.args.part other.root) wanted (joined_square p other) (subst (λ r. AddsPiecesOfGrid plane_grid 8 p.store c.join_roots-added.new.plane.store 28 (join_grid p.store other.store 28 c.args.part r)) is c.join_roots-added.ensures.pieces))

pub returns-clause-joins : goal.returns-clause-joins
returns-clause-joins c =
    let p = rooted c.args.plane.now c.args.part in
    let other = c.args.other.now in
    let new = rooted c.join_roots-added.new.plane c.in_ok-added.added in
    let is = c.part-there.ensures ∙ ap (λ square. square.part) c.root.ensures.square in
    joined_read p new other c.join_roots-added.ensures.grows.store c.requires (subst (λ r. IsSquareJoin new.store other.store 28 c.args.part r new.root) is c.in_ok-added.ensures.join)
