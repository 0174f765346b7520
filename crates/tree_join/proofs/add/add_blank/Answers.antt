use Rattle.std.proofs.Common.{sym, ap, subst, Err}
use Rattle.square_store.specs.Grid.{blank_grid}
use Rattle.square_store.proofs.Made.{told}
use Rattle.square_store.proofs.PieceLaws.{adds_itself}
use Rattle.stamped_tree.specs.Full.{IsFullStoreFor}
use Rattle.stamped_tree.specs.LeafKind.{plane_grid}
use Rattle.stamped_tree.specs.Plane.{StampedPlane}
use Rattle.tree_join.proofs.Pieces.{plane_adds_none}
use Rattle.tree_join.proofs.add.add_blank.Goals as goal

pub returns-in_err-part-clause-full : goal.returns-in_err-part-clause-full
returns-in_err-part-clause-full c = λ e k. subst (λ (p : StampedPlane). IsFullStoreFor p.store k (blank_grid c.args.stamp)) (sym c.in_err-part.ensures.err) (record { full = c.in_err-part.ensures.full (ap (λ e. Err e) (told _ _ _ c.from_residual.ensures.1 e)) k; store = c.plane_laws.ensures.store })

pub returns-in_err-part-clause-pieces : goal.returns-in_err-part-clause-pieces
returns-in_err-part-clause-pieces c = λ k. plane_adds_none c.args.plane.now c.add_blank.new.self c.in_err-part.ensures.err k (blank_grid c.args.stamp)

pub returns-clause-pieces : goal.returns-clause-pieces
returns-clause-pieces c = λ k. adds_itself plane_grid 8 c.args.plane.now.store c.add_blank.new.self.store k (blank_grid c.args.stamp) (blank_grid c.args.stamp) c.in_ok-part.part (c.in_ok-part.ensures.draws k) (c.in_ok-part.ensures.added k)
