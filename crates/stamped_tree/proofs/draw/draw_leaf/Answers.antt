use Rattle.std.proofs.Common.{rules, ap, subst, sym, Err}
use Rattle.stamped_tree.specs.LeafKind.{plane_grid}
use Rattle.square_store.specs.Squares.{grid_at}
use Rattle.stamped_tree.specs.Plane.{grid_of_leaf}
use Rattle.square_store.proofs.Drawn.{draws_as}
use Rattle.square_store.proofs.Made.{told}
use Rattle.square_store.proofs.PieceLaws.{adds_itself, adds_unchanged}
use Rattle.stamped_tree.specs.Drawing.{drawn_grid, edit_grid}
use Rattle.stamped_tree.specs.Morton.{listed_in}
use Rattle.stamped_tree.specs.Full.{IsFullStoreFor}
use Rattle.stamped_tree.proofs.DrawnPieces.{same_full}
use Rattle.stamped_tree.proofs.Held.{holds_added}
use Rattle.stamped_tree.proofs.Overwriting.{leaf_over, leaf_stamped, same_writes}
use Rattle.stamped_tree.proofs.draw.draw_leaf.Goals as goal

pub returns : goal.returns
returns c = record {
  draws = search rules;
  grows = search rules;
  writes = (let a = c.args in
      let r = c.in_ok-drawn in
      let l = c.overwritten_leaf-leaf.result in
      λ holds. holds_added a.store.now c.add_leaf.new.self 0 (plane_grid l) r.drawn holds r.ensures.grows r.ensures.draws
      (leaf_stamped 8 (grid_of_leaf c.leaf_at.result) (plane_grid l) a.stamp a.area (listed_in 8 a.cells.now) c.requires.stamp
      (same_writes 8 (grid_of_leaf c.leaf_at.result) (grid_at plane_grid 8 a.store.now 0 a.part) c.leaf_at.ensures.writes (holds 0 a.part c.requires.part)) c.overwritten_leaf-leaf.ensures)
      r.ensures.added);
  pieces = (let a = c.args in
      let l = c.overwritten_leaf-leaf.result in
      let w = drawn_grid a.store.now 0 a.part a.stamp a.area (listed_in 8 a.cells.now) in
      let same = leaf_over (plane_grid l) (grid_of_leaf c.leaf_at.result) (grid_at plane_grid 8 a.store.now 0 a.part) (edit_grid a.stamp a.area (listed_in 8 a.cells.now)) c.overwritten_leaf-leaf.ensures c.leaf_at.ensures.writes in
      adds_itself plane_grid 8 a.store.now c.add_leaf.new.self 0 (plane_grid l) w c.in_ok-drawn.drawn (draws_as plane_grid 8 c.add_leaf.new.self 0 (plane_grid l) w c.in_ok-drawn.drawn same c.in_ok-drawn.ensures.draws) c.in_ok-drawn.ensures.added);
  full = search rules;
}

pub returns-in_err-drawn : goal.returns-in_err-drawn
returns-in_err-drawn c = record {
  draws = search rules;
  grows = search rules;
  writes = search rules;
  pieces = adds_unchanged plane_grid 8 c.args.store.now c.add_leaf.new.self c.in_err-drawn.ensures.err 0 (drawn_grid c.args.store.now 0 c.args.part c.args.stamp c.args.area (listed_in 8 c.args.cells.now));
  full = (let a = c.args in
      let l = c.overwritten_leaf-leaf.result in
      let w = drawn_grid a.store.now 0 a.part a.stamp a.area (listed_in 8 a.cells.now) in
      let same = leaf_over (plane_grid l) (grid_of_leaf c.leaf_at.result) (grid_at plane_grid 8 a.store.now 0 a.part) (edit_grid a.stamp a.area (listed_in 8 a.cells.now)) c.overwritten_leaf-leaf.ensures c.leaf_at.ensures.writes in
      λ e. subst (λ s. IsFullStoreFor s 0 w) (sym c.in_err-drawn.ensures.err) (same_full a.store.now 0 (plane_grid l) w same (record {
        full = c.in_err-drawn.ensures.full (ap (λ e. Err e) (told _ _ _ c.from_residual.ensures.1 e));
        store = c.store_laws.ensures.store;
      })));
}
