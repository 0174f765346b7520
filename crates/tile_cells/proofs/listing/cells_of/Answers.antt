use Rattle.std.proofs.Common.{[], refl, arith}
use Rattle.tile_cells.proofs.TileLemmas.{below_more, below_none, lists_all}
use Rattle.tile_cells.proofs.listing.cells_of.Goals as goal

pub loop-index-init : goal.loop-index-init
loop-index-init N c = below_none N.row.N c.args.tiles.now.map.entries c.in_ok-corners.corners.items _ c.new-cells.ensures.items

pub loop-index-preserved : goal.loop-index-preserved
loop-index-preserved N c =
    below_more N.row.N c.args.tiles.now.map.entries c.in_ok-corners.corners.items _ c.loop-index.first c.loop-index.index _ c.loop-index.cells.items _
    c.deref.ensures.value c.loop-index.invariant c.in_ok-first.ensures

pub returns : goal.returns
returns N c = lists_all N.row.N c.args.tiles.now.map.entries c.in_ok-corners.corners.items [] c.loop-index.cells.items c.loop-index.first c.in_ok-corners.ensures refl
    (c.loop-index.invariant.whole (omega (arith, c.loop-index-test.false))) c.loop-index.invariant.lists
