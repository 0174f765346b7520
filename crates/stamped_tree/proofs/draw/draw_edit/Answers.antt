use Rattle.std.proofs.Common.{◌∙◌, refl, ap, Err}
use Rattle.square_store.specs.Squares.{grid_at}
use Rattle.stamped_tree.specs.LeafKind.{plane_grid}
use Rattle.stamped_tree.specs.Drawing.{edit_grid}
use Rattle.stamped_tree.specs.Morton.{listed_in}
use Rattle.stamped_tree.specs.OnPlane.{plane_writes}
use Rattle.stamped_tree.specs.Overwriting.{overwritten_grid}
use Rattle.square_store.proofs.Drawn.{draws_as}
use Rattle.square_store.proofs.Made.{told}
use Rattle.square_store.proofs.PieceLaws.{adds_as, adds_none}
use Rattle.stamped_tree.proofs.DrawnPieces.{same_full}
use Rattle.stamped_tree.proofs.Morton.{whole_run}
use Rattle.stamped_tree.proofs.OnPlaneLaws.{edit_on_plane}
use Rattle.stamped_tree.proofs.Overwriting.{over_same}
use Rattle.stamped_tree.proofs.draw.draw_edit.Goals as goal

pub returns-clause-draws : goal.returns-clause-draws
returns-clause-draws c =
    let e = c.args.edit.now in
    let old = grid_at plane_grid 8 c.args.store.now 28 c.args.root in
    let new = edit_grid c.number-stamp.result c.area_on_plane-area.result (listed_in 2147483648 c.deref.result.now) in
    let same = over_same 2147483648 old old new (plane_writes e) (λ u v hu hv. refl) (edit_on_plane e c.number-stamp.result c.area.result c.area_on_plane-area.result c.listed_cells.result.now c.in_ok-listed.listed.items c.deref.result.now c.listed_cells.ensures.edit (c.number-stamp.ensures.value ∙ c.stamp.ensures) c.area.ensures c.listed_cells.ensures.cells c.in_ok-listed.ensures (rw c.deref.ensures.value c.in_ok-cells.ensures.stable) c.area_on_plane-area.ensures) in
    draws_as plane_grid 8 c.draw.new.store 28 (overwritten_grid old new) (overwritten_grid old (plane_writes e)) c.in_ok-part.part same c.in_ok-part.ensures.drawn.draws

pub returns-clause-pieces : goal.returns-clause-pieces
returns-clause-pieces c =
    let e = c.args.edit.now in
    let old = grid_at plane_grid 8 c.args.store.now 28 c.args.root in
    let new = edit_grid c.number-stamp.result c.area_on_plane-area.result (listed_in 2147483648 c.deref.result.now) in
    let same = over_same 2147483648 old old new (plane_writes e) (λ u v hu hv. refl) (edit_on_plane e c.number-stamp.result c.area.result c.area_on_plane-area.result c.listed_cells.result.now c.in_ok-listed.listed.items c.deref.result.now c.listed_cells.ensures.edit (c.number-stamp.ensures.value ∙ c.stamp.ensures) c.area.ensures c.listed_cells.ensures.cells c.in_ok-listed.ensures (rw c.deref.ensures.value c.in_ok-cells.ensures.stable) c.area_on_plane-area.ensures) in
    adds_as plane_grid 8 c.args.store.now c.draw.new.store 28 (overwritten_grid old new) (overwritten_grid old (plane_writes e)) same c.in_ok-part.ensures.drawn.pieces

pub returns-in_err-part-clause-pieces : goal.returns-in_err-part-clause-pieces
returns-in_err-part-clause-pieces c =
    let e = c.args.edit.now in
    let old = grid_at plane_grid 8 c.args.store.now 28 c.args.root in
    let new = edit_grid c.number-stamp.result c.area_on_plane-area.result (listed_in 2147483648 c.deref.result.now) in
    let same = over_same 2147483648 old old new (plane_writes e) (λ u v hu hv. refl) (edit_on_plane e c.number-stamp.result c.area.result c.area_on_plane-area.result c.listed_cells.result.now c.in_ok-listed.listed.items c.deref.result.now c.listed_cells.ensures.edit (c.number-stamp.ensures.value ∙ c.stamp.ensures) c.area.ensures c.listed_cells.ensures.cells c.in_ok-listed.ensures (rw c.deref.ensures.value c.in_ok-cells.ensures.stable) c.area_on_plane-area.ensures) in
    adds_as plane_grid 8 c.args.store.now c.draw.new.store 28 (overwritten_grid old new) (overwritten_grid old (plane_writes e)) same c.in_err-part.ensures.drawn.pieces

pub returns-in_err-part-clause-full : goal.returns-in_err-part-clause-full
returns-in_err-part-clause-full c =
    let e = c.args.edit.now in
    let old = grid_at plane_grid 8 c.args.store.now 28 c.args.root in
    let new = edit_grid c.number-stamp.result c.area_on_plane-area.result (listed_in 2147483648 c.deref.result.now) in
    let same = over_same 2147483648 old old new (plane_writes e) (λ u v hu hv. refl) (edit_on_plane e c.number-stamp.result c.area.result c.area_on_plane-area.result c.listed_cells.result.now c.in_ok-listed.listed.items c.deref.result.now c.listed_cells.ensures.edit (c.number-stamp.ensures.value ∙ c.stamp.ensures) c.area.ensures c.listed_cells.ensures.cells c.in_ok-listed.ensures (rw c.deref.ensures.value c.in_ok-cells.ensures.stable) c.area_on_plane-area.ensures) in
    λ told_full. (same_full c.draw.new.store 28 (overwritten_grid old new) (overwritten_grid old (plane_writes e)) same (c.in_err-part.ensures.drawn.full (ap (λ e. Err e) (told _ _ _ c.from_residual-in_err-part.ensures.1 told_full)))).full

pub returns-in_err-cells-clause-pieces : goal.returns-in_err-cells-clause-pieces
returns-in_err-cells-clause-pieces c = adds_none plane_grid 8 c.args.store.now 28 (overwritten_grid (grid_at plane_grid 8 c.args.store.now 28 c.args.root) (plane_writes c.args.edit.now))

pub returns-in_err-listed-clause-pieces : goal.returns-in_err-listed-clause-pieces
returns-in_err-listed-clause-pieces c = adds_none plane_grid 8 c.args.store.now 28 (overwritten_grid (grid_at plane_grid 8 c.args.store.now 28 c.args.root) (plane_writes c.args.edit.now))

pub draw-requires-clause-cells : goal.draw-requires-clause-cells
draw-requires-clause-cells c = rw c.deref.ensures.value (whole_run c.in_ok-cells.cells.items c.in_ok-cells.ensures.order)
