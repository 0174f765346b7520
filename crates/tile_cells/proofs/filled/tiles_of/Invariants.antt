use Rattle.std.proofs.Common.{◌-◌, ◌∷◌, drop, length}
use Rattle.tile_steps.specs.Tiles.{Shows}
use Rattle.tile_cells.specs.Causes.{AreTilesOf}
use Rattle.tile_cells.specs.Listing.{states_in}
use Rattle.tile_cells.proofs.filled.tiles_of.Given as goal

abbrev pub invariant-loop-done : goal.invariant-loop-done
invariant-loop-done g l = record {
  shows : Shows g.row.N 0 ((l.filling.corner, l.filling.tile) ∷ l.filling.tiles.map.entries) (states_in (drop (length l.cells - l.done) l.cells));
  of : AreTilesOf g.row.N l.cells ((l.filling.corner, l.filling.tile) ∷ l.filling.tiles.map.entries);
}
