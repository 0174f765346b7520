use Rattle.std.proofs.Common.{sym, ap, subst, Err}
use Rattle.square_store.proofs.Made.{told}
use Rattle.square_store.proofs.PieceLaws.{adds_itself}
use Rattle.stamped_tree.specs.Full.{IsFullStoreFor}
use Rattle.stamped_tree.specs.LeafKind.{plane_grid}
use Rattle.stamped_tree.specs.Plane.{StampedPlane, grid_of_leaf}
use Rattle.tree_join.proofs.Pieces.{plane_adds_none}
use Rattle.tree_join.proofs.add.add_leaf.Goals as goal

pub returns-in_err-part-clause-full : goal.returns-in_err-part-clause-full
returns-in_err-part-clause-full c = λ e. subst (λ (p : StampedPlane). IsFullStoreFor p.store 0 (grid_of_leaf c.args.leaf)) (sym c.in_err-part.ensures.err) (record { full = c.in_err-part.ensures.full (ap (λ e. Err e) (told _ _ _ c.from_residual.ensures.1 e)); store = c.plane_laws.ensures.store })

pub returns-in_err-part-clause-pieces : goal.returns-in_err-part-clause-pieces
returns-in_err-part-clause-pieces c = plane_adds_none c.args.plane.now c.add_leaf.new.self c.in_err-part.ensures.err 0 (grid_of_leaf c.args.leaf)

pub returns-clause-pieces : goal.returns-clause-pieces
returns-clause-pieces c = adds_itself plane_grid 8 c.args.plane.now.store c.add_leaf.new.self.store 0 (grid_of_leaf c.args.leaf) (grid_of_leaf c.args.leaf) c.in_ok-part.part c.in_ok-part.ensures.draws c.in_ok-part.ensures.added
