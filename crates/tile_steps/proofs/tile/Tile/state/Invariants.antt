use Rattle.std.proofs.Common.{◌≡◌}
use Rattle.bitplane_kernel.specs.Planes.{number, bit}
use Rattle.tile_steps.specs.Tiles.{tile_plane}
use Rattle.tile_steps.proofs.tile.Tile.state.Given as goal

abbrev pub invariant-loop-p : goal.invariant-loop-p
invariant-loop-p g l = l.state ≡ number l.p (λ p. bit (tile_plane l.self.planes p) l.column l.row)
