use Rattle.cell_pictures.specs.Drawn.{IsAdded}
use Rattle.cell_pictures.specs.Plain.{plain_row}
use Rattle.cell_pictures.specs.Shown.{TellsFrom, texts_below}
use Rattle.cell_pictures.specs.Window.{place_in}
use Rattle.cell_pictures.proofs.plain.plain_text.Given as goal

abbrev pub invariant-loop-row : goal.invariant-loop-row
invariant-loop-row g l = record {
  drawn : IsAdded (g.K.Sink.known l.fn.sink) (g.K.Sink.known l.sink) (texts_below l.row (plain_row l.states l.cells l.window));
  tells : TellsFrom (place_in l.window 0 l.row) l.cells l.reader.rest.now;
}
