use Rattle.std.proofs.Common.{sym, ap, subst, Err}
use Rattle.square_store.specs.Squares.{grid_at}
use Rattle.stamped_tree.specs.LeafKind.{plane_grid}
use Rattle.square_store.specs.Pieces.{AddsPiecesOfGrid}
use Rattle.square_store.proofs.Made.{told}
use Rattle.square_store.proofs.PieceLaws.{adds_as}
use Rattle.stamped_tree.specs.Full.{IsFullStoreFor}
use Rattle.stamped_tree.specs.Plane.{grid_of_leaf}
use Rattle.stamped_tree.proofs.DrawnPieces.{same_full}
use Rattle.stamped_tree.proofs.Copying.{leaf_copied}
use Rattle.tree_join.specs.Leaves.{leaf_listed}
use Rattle.tree_join.proofs.Joining.{leaf_writes_have}
use Rattle.tree_join.proofs.bring.bring_leaf.Goals as goal

pub add_leaf-requires : goal.add_leaf-requires
add_leaf-requires c = leaf_writes_have c.args.leaf.now (grid_at plane_grid 8 c.args.other.now.store 0 c.args.there) (λ u v hu hv. sym (c.requires.draws.same u v hu hv)) (c.plane_laws.ensures.plane.writes 0 c.args.there c.requires.draws.stands)

pub returns-clause-copy : goal.returns-clause-copy
returns-clause-copy c = leaf_copied _ _ (leaf_listed c.args.leaf.now) c.args.there _ c.requires c.in_ok-copy.ensures.draws

pub returns-clause-pieces : goal.returns-clause-pieces
returns-clause-pieces c = λ k at. subst (λ j. AddsPiecesOfGrid plane_grid 8 c.args.plane.now.store c.add_leaf.new.plane.store j (grid_at plane_grid 8 c.args.other.now.store j c.args.there)) (sym (c.requires.level k at)) (adds_as plane_grid 8 c.args.plane.now.store c.add_leaf.new.plane.store 0 (grid_of_leaf c.args.leaf.now) (grid_at plane_grid 8 c.args.other.now.store 0 c.args.there) (λ u v hu hv. sym (c.requires.draws.same u v hu hv)) c.in_ok-copy.ensures.pieces)

pub returns-in_err-copy-clause-pieces : goal.returns-in_err-copy-clause-pieces
returns-in_err-copy-clause-pieces c = λ k at. subst (λ j. AddsPiecesOfGrid plane_grid 8 c.args.plane.now.store c.add_leaf.new.plane.store j (grid_at plane_grid 8 c.args.other.now.store j c.args.there)) (sym (c.requires.level k at)) (adds_as plane_grid 8 c.args.plane.now.store c.add_leaf.new.plane.store 0 (grid_of_leaf c.args.leaf.now) (grid_at plane_grid 8 c.args.other.now.store 0 c.args.there) (λ u v hu hv. sym (c.requires.draws.same u v hu hv)) c.in_err-copy.ensures.pieces)

pub returns-in_err-copy-clause-full : goal.returns-in_err-copy-clause-full
returns-in_err-copy-clause-full c = λ e k at. subst (λ j. IsFullStoreFor c.add_leaf.new.plane.store j (grid_at plane_grid 8 c.args.other.now.store j c.args.there)) (sym (c.requires.level k at)) (same_full c.add_leaf.new.plane.store 0 (grid_of_leaf c.args.leaf.now) (grid_at plane_grid 8 c.args.other.now.store 0 c.args.there) (λ u v hu hv. sym (c.requires.draws.same u v hu hv)) (c.in_err-copy.ensures.full (ap (λ e. Err e) (told _ _ _ c.from_residual.ensures.1 e))))
