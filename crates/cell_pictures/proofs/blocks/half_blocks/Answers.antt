use Rattle.std.proofs.Common.{ℕ, ◌+◌, ◌*◌, arith}
use Rattle.cell_pictures.specs.Blocks.{block_row}
use Rattle.cell_pictures.specs.Window.{place_in}
use Rattle.cell_pictures.proofs.DrawnLaws.{added_as, text_more}
use Rattle.cell_pictures.proofs.BlockLaws.{same_row}
use Rattle.cell_pictures.proofs.RowLaws.{tells_row, tells_on, tells_back}
use Rattle.cell_pictures.proofs.blocks.half_blocks.Goals as goal

pub block_row-requires-clause-same : goal.block_row-requires-clause-same
block_row-requires-clause-same g c =
    let p = place_in c.args.window 0 (2 * c.loop-line.line) in
    tells_on p c.loop-line.lower.rest.now c.args.cells.now c.loop-line.upper.rest.now
    (tells_back p c.args.cells.now c.loop-line.lower.rest.now c.loop-line.invariant.lower) c.loop-line.invariant.upper

pub loop-line-preserved : goal.loop-line-preserved
loop-line-preserved g c =
    let w = c.args.window in
    let line = c.loop-line.line in
    let cells = c.args.cells.now in
    let upper = c.loop-line.upper.rest.now in
    let lower = c.loop-line.lower.rest.now in
    let next : ℕ = 2 * (line + 1) in
    record {
      drawn = text_more (g.K.Sink.known c.args.sink.now) (g.K.Sink.known c.loop-line.sink) (g.K.Sink.known c.block_row.new.sink) line
          (block_row c.args.states cells w) c.loop-line.invariant.drawn
          (added_as _ _ _ _ (same_row c.args.states w line cells lower c.loop-line.invariant.lower) c.in_ok-block_row.ensures.drawn);
      upper = tells_on (place_in w 0 next) cells upper c.block_row.new.upper.rest.now
          (tells_row w 0 (2 * line) next cells upper (omega arith) c.loop-line.invariant.upper) c.in_ok-block_row.ensures.upper;
      lower = tells_on (place_in w 0 next) cells lower c.block_row.new.lower.rest.now
          (tells_row w 0 (2 * line) next cells lower (omega arith) c.loop-line.invariant.lower) c.in_ok-block_row.ensures.lower;
    }
