use Rattle.std.proofs.Common.{◌≡◌, ℕ, ◌<◌, get_or}
use Rattle.tile_steps.specs.Tiles.{tile_plane}
use Rattle.tile_steps.proofs.tile.Tile.is_row_dead.Given as goal

abbrev pub invariant-loop-p : goal.invariant-loop-p
invariant-loop-p g l = (q : ℕ) → q < l.p → get_or (tile_plane l.self.planes q) l.row 0 ≡ 0
