use Rattle.std.proofs.Common.{◌-◌, sym, ap, subst, Err}
use Rattle.square_store.specs.Squares.{Draws, four_grid}
use Rattle.square_store.specs.Store.{IsAdded, IsFullFor}
use Rattle.square_store.proofs.Made.{told}
use Rattle.square_store.proofs.PieceLaws.{adds_itself}
use Rattle.stamped_tree.specs.Full.{IsFullStoreFor}
use Rattle.stamped_tree.specs.LeafKind.{plane_grid}
use Rattle.stamped_tree.specs.Plane.{StampedPlane}
use Rattle.tree_join.proofs.Pieces.{level_is, plane_adds_none}
use Rattle.tree_join.proofs.add.add_four.Goals as goal

pub returns-clause-draws : goal.returns-clause-draws
returns-clause-draws c = subst (λ k. Draws plane_grid 8 c.add_four.new.self.store k (four_grid plane_grid 8 c.args.plane.now.store (k - 1) c.args.parts) c.in_ok-part.part) (level_is c.args.above) c.in_ok-part.ensures.draws

pub returns-in_err-part-clause-full : goal.returns-in_err-part-clause-full
returns-in_err-part-clause-full c = λ e. subst (λ (p : StampedPlane). IsFullStoreFor p.store c.args.above (four_grid plane_grid 8 c.args.plane.now.store (c.args.above - 1) c.args.parts)) (sym c.in_err-part.ensures.err) (record {
  full = subst (λ k. IsFullFor plane_grid 8 c.args.plane.now.store k (four_grid plane_grid 8 c.args.plane.now.store (k - 1) c.args.parts)) (level_is c.args.above) (c.in_err-part.ensures.full (ap (λ e. Err e) (told _ _ _ c.from_residual.ensures.1 e)));
  store = c.plane_laws.ensures.store;
})

pub returns-in_err-part-clause-pieces : goal.returns-in_err-part-clause-pieces
returns-in_err-part-clause-pieces c = plane_adds_none c.args.plane.now c.add_four.new.self c.in_err-part.ensures.err c.args.above (four_grid plane_grid 8 c.args.plane.now.store (c.args.above - 1) c.args.parts)

pub returns-clause-pieces : goal.returns-clause-pieces
returns-clause-pieces c =
    let four = four_grid plane_grid 8 c.args.plane.now.store (c.args.above - 1) c.args.parts in
    adds_itself plane_grid 8 c.args.plane.now.store c.add_four.new.self.store c.args.above four four c.in_ok-part.part
    (subst (λ k. Draws plane_grid 8 c.add_four.new.self.store k (four_grid plane_grid 8 c.args.plane.now.store (k - 1) c.args.parts) c.in_ok-part.part) (level_is c.args.above) c.in_ok-part.ensures.draws)
    (subst (λ k. IsAdded plane_grid 8 c.args.plane.now.store c.add_four.new.self.store k (four_grid plane_grid 8 c.args.plane.now.store (k - 1) c.args.parts) c.in_ok-part.part) (level_is c.args.above) c.in_ok-part.ensures.added)
