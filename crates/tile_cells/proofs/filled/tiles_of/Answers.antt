use Rattle.std.proofs.Common.{◌≡◌, ◌+◌, ◌-◌, ◌∷◌, length, subst, arith, rules}
use Rattle.std.specs.Prelude.{Some, slice_get}
use Rattle.std.proofs.lemmas.Bool.{false≢true}
use Rattle.std.proofs.lemmas.Int.{to_z-of_z}
use mir.Syntax.{w32}
use Rattle.tile_cells.proofs.FillLemmas.{filled_all, filled_more, filled_none, state_below, tiles_more, tiles_near, tiles_none, want}
use Rattle.tile_steps.proofs.RoomLemmas.{told}
use Rattle.tile_cells.proofs.filled.tiles_of.Goals as goal

pub loop-done-init : goal.loop-done-init
loop-done-init N c = record {
  shows = filled_none N.row.N _ c.args.cells.now (length c.args.cells.now - 0) (omega arith) c.new-filling.ensures.shows;
  of = tiles_none N.row.N c.args.cells.now _ _ _ c.new-filling.ensures.none c.new-filling.ensures.corner;
}

pub put-requires : goal.put-requires
put-requires N c =
    let below = state_below c.args.states c.args.cells.now _ c.cell_in-cell.result c.requires.below c.cell_in-cell.ensures in
    let enough = c.requires.enough in
    (first_of (search rules, omega (arith, c.requires.few), grind (arith, c.requires.few)), (c.requires.few, omega (arith, below, enough)))

pub loop-done-preserved : goal.loop-done-preserved
loop-done-preserved N c =
    let cells = c.args.cells.now in
    let at : slice_get cells (length cells - (c.loop-done.done + 1)) ≡ Some c.cell_in-cell.result =
    subst (λ k. slice_get cells k ≡ Some c.cell_in-cell.result) (omega (arith, c.loop-done-test.true)) c.cell_in-cell.ensures in
    record {
      shows = filled_more N.row.N _ cells (length cells - (c.loop-done.done + 1)) (length cells - c.loop-done.done) c.cell_in-cell.result _ _ at (omega (arith, c.loop-done-test.true))
          (to_z-of_z w32 _ (record { sfits = c.cell_in-cell.type_inv.1.1.0.1 })) (to_z-of_z w32 _ (record { sfits = c.cell_in-cell.type_inv.1.1.1.0.1 }))
          (c.in_ok-put.ensures.put _ c.loop-done.invariant.shows);
      of = tiles_more N.row.N ((c.loop-done.filling.corner, c.loop-done.filling.tile) ∷ c.loop-done.filling.tiles.map.entries)
          ((c.put.new.self.corner, c.put.new.self.tile) ∷ c.put.new.self.tiles.map.entries) cells (length cells - (c.loop-done.done + 1)) c.cell_in-cell.result _ _ at
          (to_z-of_z w32 _ (record { sfits = c.cell_in-cell.type_inv.1.1.0.1 })) (to_z-of_z w32 _ (record { sfits = c.cell_in-cell.type_inv.1.1.1.0.1 }))
          c.loop-done.invariant.of c.in_ok-put.ensures.corners;
    }

pub returns-clause-shows : goal.returns-clause-shows
returns-clause-shows N c =
    filled_all N.row.N _ c.args.cells.now (length c.args.cells.now - c.loop-done.done) (omega (arith, c.loop-done-test.false))
    (c.in_ok-tiles.ensures.tiles _ c.loop-done.invariant.shows)

pub returns-clause-of : goal.returns-clause-of
returns-clause-of N c = λ q has. c.loop-done.invariant.of q (c.in_ok-tiles.ensures.corners q has)

pub returns-in_err-put-clause-cause : goal.returns-in_err-put-clause-cause
returns-in_err-put-clause-cause N c = told _ _ _ c.from_residual.ensures.1 (want c.args.cells.now _ c.in_err-put.ensures.cause)

pub returns-in_err-tiles-clause-cause : goal.returns-in_err-tiles-clause-cause
returns-in_err-tiles-clause-cause N c = told _ _ _ c.from_residual-in_err-tiles.ensures.1 (want c.args.cells.now _ c.in_err-tiles.ensures.cause)

pub returns-then-not-are_inside-clause-cause : goal.returns-then-not-are_inside-clause-cause
returns-then-not-are_inside-clause-cause N c near = false≢true
    (c.if-not-are_inside.ensures.1 (tiles_near N.row.N c.args.cells.now _ (λ q has. c.loop-done.invariant.of q (c.in_ok-tiles.ensures.corners q has)) near))
