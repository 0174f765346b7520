use Rattle.std.proofs.Common.{sym}
use Rattle.square_store.specs.Squares.{grid_at}
use Rattle.square_store.proofs.PieceLaws.{piece_as}
use Rattle.stamped_tree.specs.LeafKind.{plane_grid}
use Rattle.stamped_tree.proofs.Copying.{no_more}
use Rattle.stamped_tree.proofs.Cutting.{cut_alone, cut_holds}
use Rattle.stamped_tree.proofs.plane.Plane.copy.Goals as goal

pub invariant_of-result : goal.invariant_of-result
invariant_of-result c = record {
  root = (c.in_ok-root.ensures.copy.draws 28 c.self.invariant.root).stands;
  writes = cut_holds c.limits.result.room _ 28 (grid_at plane_grid 8 c.self.inside.store 28 c.self.inside.root) (c.self.invariant.writes 28 c.self.inside.root c.self.invariant.root) (rw c.new-store.ensures at c.in_ok-root.ensures.pieces);
}

pub returns-clause-squares : goal.returns-clause-squares
returns-clause-squares c = λ q held.
    (let drawn = c.in_ok-root.ensures.copy.draws 28 c.self.invariant.root in
    piece_as plane_grid 8 _ 28 (grid_at plane_grid 8 c.self.inside.store 28 c.self.inside.root) _ q (λ u v hu hv. sym (drawn.same u v hu hv))
    (cut_alone c.limits.result.room _ 28 (grid_at plane_grid 8 c.self.inside.store 28 c.self.inside.root) (rw c.new-store.ensures at c.in_ok-root.ensures.pieces) q held))

pub returns-clause-nodes : goal.returns-clause-nodes
returns-clause-nodes c = rw (← c.self.view_is) (no_more _ _ _ c.in_ok-root.ensures.copies)
