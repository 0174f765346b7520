use Rattle.std.proofs.Common.{ap, sym, Err}
use Rattle.edit_stamps.specs.Edit.{writes_of}
use Rattle.square_store.specs.Squares.{grid_at}
use Rattle.square_store.proofs.Made.{full_as, told}
use Rattle.square_store.proofs.PieceLaws.{adds_as}
use Rattle.stamped_tree.specs.LeafKind.{plane_grid}
use Rattle.stamped_tree.specs.MapPieces.{square_of}
use Rattle.stamped_tree.specs.OnPlane.{plane_writes}
use Rattle.stamped_tree.specs.Overwriting.{overwritten, overwritten_grid}
use Rattle.stamped_tree.specs.Plane.{StampedPlane, map_of}
use Rattle.stamped_tree.proofs.DrawnPieces.{over_square}
use Rattle.stamped_tree.proofs.OnPlaneLaws.{edit_inside}
use Rattle.stamped_tree.proofs.Overwriting.{over_read}
use Rattle.stamped_tree.proofs.plane.Plane.add_overwritten.Goals as goal

pub returns-clause-overwrites : goal.returns-clause-overwrites
returns-clause-overwrites c = rw (← c.self.view_is) (over_read c.self.inside.store c.draw_edit.new.store c.args.root c.in_ok-part.part c.args.edit.now c.in_ok-part.ensures.draws (edit_inside c.args.edit.now c.in_ok-part.ensures.edit))

pub returns-clause-pieces : goal.returns-clause-pieces
returns-clause-pieces c =
    let p : StampedPlane = record { store = c.self.inside.store; root = c.args.root } in
    rw (← c.self.view_is) (adds_as plane_grid 8 c.self.inside.store c.draw_edit.new.store 28 (overwritten_grid (grid_at plane_grid 8 p.store 28 p.root) (plane_writes c.args.edit.now)) (square_of (overwritten (map_of p) (writes_of c.args.edit.now))) (over_square p c.args.edit.now) c.in_ok-part.ensures.pieces)

pub returns-in_err-part-clause-pieces : goal.returns-in_err-part-clause-pieces
returns-in_err-part-clause-pieces c =
    let p : StampedPlane = record { store = c.self.inside.store; root = c.args.root } in
    rw (← c.self.view_is) (adds_as plane_grid 8 c.self.inside.store c.draw_edit.new.store 28 (overwritten_grid (grid_at plane_grid 8 p.store 28 p.root) (plane_writes c.args.edit.now)) (square_of (overwritten (map_of p) (writes_of c.args.edit.now))) (over_square p c.args.edit.now) c.in_err-part.ensures.pieces)

pub returns-in_err-part-clause-full : goal.returns-in_err-part-clause-full
returns-in_err-part-clause-full c = λ e.
    (let p : StampedPlane = record { store = c.self.inside.store; root = c.args.root } in
    rw (← c.self.view_is) (full_as plane_grid 8 28 (square_of (overwritten (map_of p) (writes_of c.args.edit.now))) (overwritten_grid (grid_at plane_grid 8 p.store 28 p.root) (plane_writes c.args.edit.now)) (λ u v hu hv. sym (over_square p c.args.edit.now u v hu hv)) c.draw_edit.new.store (c.in_err-part.ensures.full (ap (λ e. Err e) (told _ _ _ c.from_residual.ensures.1 e)))))
