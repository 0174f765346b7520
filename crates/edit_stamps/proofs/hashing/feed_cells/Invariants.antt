use Rattle.std.proofs.Common.{◌≡◌, drop}
use Rattle.std.specs.List.{flat_map, fold}
use Rattle.edit_stamps.specs.Hashing.{fed_of_cell}
use Rattle.edit_stamps.proofs.hashing.feed_cells.Given as goal

abbrev pub invariant-loop-cell : goal.invariant-loop-cell
invariant-loop-cell g l = fold g.H.Hasher.write l.state (flat_map fed_of_cell (drop l.cell-index l.cells)) ≡ fold g.H.Hasher.write l.initial.state (flat_map fed_of_cell l.cells)
