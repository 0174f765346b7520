use Rattle.std.proofs.Common.{arith}
use Rattle.tile_cells.proofs.TileLemmas.{corners_all, corners_more, corners_none}
use Rattle.tile_cells.proofs.listing.corners_of.Goals as goal

pub loop-index-init : goal.loop-index-init
loop-index-init N c = corners_none N.row.N c.args.tiles.now.map.entries _ c.in_ok-corners.ensures.items

pub loop-index-preserved : goal.loop-index-preserved
loop-index-preserved N c =
    rw c.in_ok-push.ensures.items (corners_more N.row.N c.args.tiles.now.map.entries c.loop-index.corners.items c.loop-index.index c.corner.result c.corner.ensures.0 c.requires c.corner.ensures.1 c.loop-index.invariant)

pub returns : goal.returns
returns N c = corners_all N.row.N c.args.tiles.now.map.entries c.loop-index.corners.items c.sorted.result.items c.loop-index.index (omega (arith, c.loop-index-test.false)) c.loop-index.invariant c.sorted.ensures
