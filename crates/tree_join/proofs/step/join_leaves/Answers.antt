use Rattle.std.proofs.Common.{ap, Err}
use Rattle.square_store.proofs.Made.{told}
use Rattle.square_store.proofs.PieceLaws.{adds_as, adds_none}
use Rattle.stamped_tree.specs.LeafKind.{plane_grid}
use Rattle.stamped_tree.specs.Plane.{grid_of_leaf}
use Rattle.stamped_tree.proofs.DrawnPieces.{same_full}
use Rattle.square_store.proofs.Places.{at_within}
use Rattle.tree_join.proofs.Joining.{leaf_writes_have, merged_has}
use Rattle.tree_join.specs.Squares.{join_grid}
use Rattle.tree_join.proofs.step.join_leaves.Goals as goal

pub square-requires : goal.square-requires
square-requires c = at_within c.args.plane.now.store 0 c.args.here c.requires.here

pub square-requires-2 : goal.square-requires-2
square-requires-2 c = at_within c.args.other.now.store 0 c.args.there c.requires.there

pub add_leaf-requires : goal.add_leaf-requires
add_leaf-requires c = leaf_writes_have c.merged_leaf-leaf.result (join_grid c.args.plane.now.store c.args.other.now.store 0 c.args.here c.args.there) (rw (c.square.ensures, c.square-2.ensures) at c.merged_leaf-leaf.ensures)
    (merged_has c.args.plane.now.store c.args.other.now.store c.args.here c.args.there c.plane_laws.ensures.plane.writes c.plane_laws-2.ensures.plane.writes c.requires.here c.requires.there)

pub returns-clause-pieces : goal.returns-clause-pieces
returns-clause-pieces c =
    let f = join_grid c.args.plane.now.store c.args.other.now.store 0 c.args.here c.args.there in
    let same = rw (c.square.ensures, c.square-2.ensures) at c.merged_leaf-leaf.ensures in
    adds_as plane_grid 8 c.args.plane.now.store c.add_leaf.new.plane.store 0 (grid_of_leaf c.merged_leaf-leaf.result) f same c.in_ok-part.ensures.pieces

pub returns-in_err-part-clause-pieces : goal.returns-in_err-part-clause-pieces
returns-in_err-part-clause-pieces c =
    let f = join_grid c.args.plane.now.store c.args.other.now.store 0 c.args.here c.args.there in
    let same = rw (c.square.ensures, c.square-2.ensures) at c.merged_leaf-leaf.ensures in
    adds_as plane_grid 8 c.args.plane.now.store c.add_leaf.new.plane.store 0 (grid_of_leaf c.merged_leaf-leaf.result) f same c.in_err-part.ensures.pieces

pub returns-in_err-part-clause-full : goal.returns-in_err-part-clause-full
returns-in_err-part-clause-full c =
    let f = join_grid c.args.plane.now.store c.args.other.now.store 0 c.args.here c.args.there in
    let same = rw (c.square.ensures, c.square-2.ensures) at c.merged_leaf-leaf.ensures in
    λ e. same_full c.add_leaf.new.plane.store 0 (grid_of_leaf c.merged_leaf-leaf.result) f same (c.in_err-part.ensures.full (ap (λ e. Err e) (told _ _ _ c.from_residual.ensures.1 e)))

pub returns-then-is_leaf-clause-pieces : goal.returns-then-is_leaf-clause-pieces
returns-then-is_leaf-clause-pieces c = adds_none plane_grid 8 c.args.plane.now.store 0 (join_grid c.args.plane.now.store c.args.other.now.store 0 c.args.here c.args.there)
