use Rattle.std.proofs.Common.{◌+◌, ◌*◌}
use Rattle.cell_pictures.specs.Drawn.{IsAdded}
use Rattle.cell_pictures.specs.Blocks.{block_at}
use Rattle.cell_pictures.specs.Shown.{TellsFrom, texts_below}
use Rattle.cell_pictures.specs.Window.{place_in}
use Rattle.cell_pictures.proofs.blocks.block_row.Given as goal

abbrev pub invariant-loop-column : goal.invariant-loop-column
invariant-loop-column g l = record {
  drawn : IsAdded (g.K.Sink.known l.fn.sink) (g.K.Sink.known l.sink) (texts_below l.column (block_at l.states l.fn.lower.rest.now l.window (2 * l.line)));
  upper : TellsFrom (place_in l.window l.column (2 * l.line)) l.fn.upper.rest.now l.upper.rest.now;
  lower : TellsFrom (place_in l.window l.column (2 * l.line + 1)) l.fn.lower.rest.now l.lower.rest.now;
}
