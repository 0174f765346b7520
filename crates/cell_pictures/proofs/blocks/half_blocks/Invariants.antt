use Rattle.std.proofs.Common.{◌*◌}
use Rattle.cell_pictures.specs.Drawn.{IsAdded}
use Rattle.cell_pictures.specs.Blocks.{block_row}
use Rattle.cell_pictures.specs.Shown.{TellsFrom, texts_below}
use Rattle.cell_pictures.specs.Window.{place_in}
use Rattle.cell_pictures.proofs.blocks.half_blocks.Given as goal

abbrev pub invariant-loop-line : goal.invariant-loop-line
invariant-loop-line g l = record {
  drawn : IsAdded (g.K.Sink.known l.fn.sink) (g.K.Sink.known l.sink) (texts_below l.line (block_row l.states l.cells l.window));
  upper : TellsFrom (place_in l.window 0 (2 * l.line)) l.cells l.upper.rest.now;
  lower : TellsFrom (place_in l.window 0 (2 * l.line)) l.cells l.lower.rest.now;
}
