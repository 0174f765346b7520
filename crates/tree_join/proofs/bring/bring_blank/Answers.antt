use Rattle.std.proofs.Common.{sym, ap, Err}
use Rattle.square_store.specs.Grid.{blank_grid}
use Rattle.square_store.specs.Squares.{grid_at}
use Rattle.square_store.proofs.Made.{told}
use Rattle.square_store.proofs.PieceLaws.{adds_as}
use Rattle.stamped_tree.specs.LeafKind.{plane_grid}
use Rattle.stamped_tree.proofs.DrawnPieces.{same_full}
use Rattle.stamped_tree.proofs.Copying.{blank_copied}
use Rattle.tree_join.proofs.Joining.{blank_write}
use Rattle.tree_join.proofs.bring.bring_blank.Goals as goal

pub add_blank-requires : goal.add_blank-requires
add_blank-requires c = blank_write c.args.other.now.store c.args.stamp c.args.there c.plane_laws.ensures.plane.writes c.requires

pub returns-clause-copy : goal.returns-clause-copy
returns-clause-copy c = blank_copied _ _ c.args.stamp c.args.there _ c.requires c.in_ok-copy.ensures.draws

pub returns-clause-pieces : goal.returns-clause-pieces
returns-clause-pieces c = λ k at. adds_as plane_grid 8 c.args.plane.now.store c.add_blank.new.plane.store k (blank_grid c.args.stamp) (grid_at plane_grid 8 c.args.other.now.store k c.args.there) (λ u v hu hv. sym ((c.requires k).same u v hu hv)) (c.in_ok-copy.ensures.pieces k)

pub returns-in_err-copy-clause-pieces : goal.returns-in_err-copy-clause-pieces
returns-in_err-copy-clause-pieces c = λ k at. adds_as plane_grid 8 c.args.plane.now.store c.add_blank.new.plane.store k (blank_grid c.args.stamp) (grid_at plane_grid 8 c.args.other.now.store k c.args.there) (λ u v hu hv. sym ((c.requires k).same u v hu hv)) (c.in_err-copy.ensures.pieces k)

pub returns-in_err-copy-clause-full : goal.returns-in_err-copy-clause-full
returns-in_err-copy-clause-full c = λ e k at. same_full c.add_blank.new.plane.store k (blank_grid c.args.stamp) (grid_at plane_grid 8 c.args.other.now.store k c.args.there) (λ u v hu hv. sym ((c.requires k).same u v hu hv)) (c.in_err-copy.ensures.full (ap (λ e. Err e) (told _ _ _ c.from_residual.ensures.1 e)) k)
