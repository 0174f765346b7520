use Rattle.std.proofs.Common.{◌∷◌, []}
use Rattle.cell_pictures.specs.Drawn.{IsAdded}
use Rattle.cell_pictures.specs.Plain.{character_of}
use Rattle.cell_pictures.specs.Shown.{TellsFrom, state_at, texts_below}
use Rattle.cell_pictures.specs.Window.{place_in}
use Rattle.cell_pictures.proofs.plain.plain_row.Given as goal

abbrev pub invariant-loop-column : goal.invariant-loop-column
invariant-loop-column g l = record {
  drawn : IsAdded (g.K.Sink.known l.fn.sink) (g.K.Sink.known l.sink)
      (texts_below l.column (λ column. character_of l.states (state_at l.fn.reader.rest.now (place_in l.window column l.row)) ∷ []));
  tells : TellsFrom (place_in l.window l.column l.row) l.fn.reader.rest.now l.reader.rest.now;
}
