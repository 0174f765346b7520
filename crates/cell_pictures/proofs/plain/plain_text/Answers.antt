use Rattle.std.proofs.Common.{◌≡◌, ℕ, ◌+◌, ◌∷◌, [], ◌++◌, arith}
use Rattle.std.specs.Prelude.{codes}
use Rattle.cell_pictures.specs.Plain.{character_of, plain_row}
use Rattle.cell_pictures.specs.Shown.{state_at, texts_below}
use Rattle.cell_pictures.specs.Window.{place_in}
use Rattle.cell_pictures.proofs.DrawnLaws.{added_as, text_more}
use Rattle.cell_pictures.proofs.RowLaws.{tells_row, tells_on, told_in_row}
use Rattle.cell_pictures.proofs.plain.plain_text.Goals as goal

pub loop-row-preserved : goal.loop-row-preserved
loop-row-preserved g c =
    let w = c.args.window in
    let row = c.loop-row.row in
    let cells = c.args.cells.now in
    let rest = c.loop-row.reader.rest.now in
    let told : (column : ℕ) → state_at rest (place_in w column row) ≡ state_at cells (place_in w column row) =
    λ column. told_in_row w column row cells rest c.loop-row.invariant.tells in
    let same : plain_row c.args.states rest w row ≡ plain_row c.args.states cells w row =
    λ i. texts_below w.width (λ column. character_of c.args.states (told column i) ∷ []) ++ codes "\n" in
    record {
      drawn = text_more (g.K.Sink.known c.args.sink.now) (g.K.Sink.known c.loop-row.sink) (g.K.Sink.known c.plain_row.new.sink) row
          (plain_row c.args.states cells w) c.loop-row.invariant.drawn (added_as _ _ _ _ same c.in_ok-plain_row.ensures.drawn);
      tells = tells_on (place_in w 0 (row + 1)) cells rest c.plain_row.new.reader.rest.now
          (tells_row w 0 row (row + 1) cells rest (omega arith) c.loop-row.invariant.tells) c.in_ok-plain_row.ensures.rest;
    }
