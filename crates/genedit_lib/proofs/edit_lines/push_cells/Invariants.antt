use Rattle.std.proofs.Common.{◌≡◌, ◌++◌, drop}
use mathlib.Core.List.{IsPrefix}
use Rattle.genedit_lib.specs.EditLines.{cells_text}
use Rattle.genedit_lib.proofs.edit_lines.push_cells.Given as goal

-- the cells that are printed, and then those that are left, are all; what was printed before stands
abbrev pub invariant-loop-cell : goal.invariant-loop-cell
invariant-loop-cell l = (l.fn.out.items ++ cells_text l.fn.cells ≡ l.out.items ++ cells_text (drop l.cell-index l.cells)) × IsPrefix l.fn.out.items l.out.items
