use Rattle.multistate_rle.proofs.FillLemmas.{Written}
use Rattle.multistate_rle.proofs.writing.put_cells.Given as goal

abbrev pub invariant-loop-cell : goal.invariant-loop-cell
invariant-loop-cell l = Written l.fn.lines l.bounds l.cells l.cell-index l.pen l.lines
