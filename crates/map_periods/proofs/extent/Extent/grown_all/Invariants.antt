use Rattle.std.proofs.Common.{◌≡◌, take}
use Rattle.std.specs.Prelude.{fold}
use Rattle.map_periods.specs.Moves.{grown}
use Rattle.map_periods.proofs.extent.Extent.grown_all.Given as goal

abbrev pub invariant-loop-cell : goal.invariant-loop-cell
invariant-loop-cell l = l.extent ≡ fold grown l.fn.self (take l.cell-index l.cells)
