use Rattle.std.proofs.Common.{◌∙◌, pos}
use Rattle.edit_stamps.proofs.HashingLaws.{one_fed}
use Rattle.edit_stamps.proofs.hashing.feed_cells.Goals as goal

pub loop-cell-preserved : goal.loop-cell-preserved
loop-cell-preserved g c =
    one_fed g.H.Hasher.write c.loop-cell.state c.feed_cell.new.state c.args.cells.now c.loop-cell.cell-index (record { x = pos 0; y = pos 0; state = 0 })
    c.loop-cell-test.true c.feed_cell.ensures
    ∙ c.loop-cell.invariant
