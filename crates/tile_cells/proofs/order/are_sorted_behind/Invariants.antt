use Rattle.std.proofs.Common.{◌≡◌, ◌∷◌, drop}
use Rattle.pattern_cells.specs.Cells.{is_sorted}
use Rattle.tile_cells.proofs.order.are_sorted_behind.Given as goal

abbrev pub invariant-loop-cell : goal.invariant-loop-cell
invariant-loop-cell l = is_sorted (l.last ∷ drop l.cell-index l.rest) ≡ is_sorted (l.fn.first ∷ l.rest)
