use Rattle.std.proofs.Common.{arith}
use Rattle.std.proofs.lemmas.Bool.{false≢true}
use Rattle.tile_cells.proofs.TileLemmas.{band_empty}
use Rattle.tile_cells.proofs.listing.list_if_whole.Goals as goal

pub returns-then-not-is_last_of_band : goal.returns-then-not-is_last_of_band
returns-then-not-is_last_of_band N c = record {
  lists = band_empty N.row.N c.args.tiles.now.map.entries c.args.corners.now c.args.band.first c.args.cells.now.items;
  before = (let low = c.requires.first in omega (arith, low));
  whole = λ e. absurd (false≢true (c.if-not-is_last_of_band.ensures (let low = c.requires.first in omega (arith, e, low))));
}

pub returns : goal.returns
returns N c = record { lists = c.in_ok-list_band.ensures; before = omega arith; whole = λ e. e }
