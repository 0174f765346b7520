use Rattle.multistate_rle.proofs.FillLemmas.{cell_written, all_written}
use Rattle.multistate_rle.proofs.writing.put_cells.Goals as goal

pub loop-cell-preserved : goal.loop-cell-preserved
loop-cell-preserved c =
    cell_written c.args.lines.now c.loop-cell.lines c.put_cell.new.self c.args.bounds.now c.args.cells.now c.loop-cell.cell-index _ c.loop-cell.pen c.in_ok-pen.pen c.seen.result
    c.loop-cell-test.true c.seen.ensures c.loop-cell.invariant c.in_ok-pen.ensures

pub returns : goal.returns
returns c = all_written c.put_run.result c.args.lines.now c.loop-cell.lines c.put_run.new.self c.args.bounds.now c.args.cells.now c.loop-cell.cell-index c.loop-cell.pen c.loop-cell-test.false c.loop-cell.invariant c.put_run.ensures
