use Rattle.std.proofs.Common.{◌≡◌, ℕ, ◌+◌, ◌*◌, ◌∙◌, ap, arith}
use Rattle.std.specs.Prelude.{Some, None, nat_lt, if◌then◌else◌}
use Rattle.cell_pictures.specs.Colour.{colour_of}
use Rattle.cell_pictures.specs.Blocks.{block_at, block_text, shown_colour}
use Rattle.cell_pictures.specs.Shown.{state_at}
use Rattle.cell_pictures.specs.Window.{place_in}
use Rattle.cell_pictures.proofs.DrawnLaws.{added_as, text_more}
use Rattle.cell_pictures.proofs.RowLaws.{tells_column, tells_row, told_here, told_in_row, where_ok}
use Rattle.cell_pictures.proofs.blocks.block_row.Goals as goal

pub loop-column-preserved : goal.loop-column-preserved
loop-column-preserved g c =
    let w = c.args.window in
    let i = c.loop-column.column in
    let row : ℕ = 2 * c.args.line in
    let states = c.args.states in
    let first = c.args.upper.now.rest.now in
    let second = c.args.lower.now.rest.now in
    let upper = c.loop-column.upper.rest.now in
    let lower = c.loop-column.lower.rest.now in
    let told : state_at upper (place_in w i row) ≡ state_at second (place_in w i row) =
    told_here (place_in w i row) first upper c.loop-column.invariant.upper ∙ told_in_row w i row second first c.requires.same in
    let above : c.colour_of-above.result ≡ colour_of states (state_at second (place_in w i row)) =
    c.colour_of-above.ensures ∙ ap (λ (s : ℕ). colour_of states s) (c.state_in.ensures.state ∙ told) in
    let told_below : state_at lower (place_in w i (row + 1)) ≡ state_at second (place_in w i (row + 1)) =
    told_here (place_in w i (row + 1)) second lower c.loop-column.invariant.lower in
    let below : c.colour_in-below.result ≡ shown_colour states second w i (row + 1) =
    c.colour_in-below.ensures.colour ∙ ap (λ (s : ℕ). if nat_lt (row + 1) w.height then Some (colour_of states s) else None) told_below in
    let text : block_text c.colour_of-above.result c.colour_in-below.result ≡ block_at states second w row i = λ k. block_text (above k) (below k) in
    record {
      drawn = text_more (g.K.Sink.known c.args.sink.now) (g.K.Sink.known c.loop-column.sink) (g.K.Sink.known c.push_block.new.sink) i
          (block_at states second w row) c.loop-column.invariant.drawn (added_as _ _ _ _ text c.in_ok-push_block.ensures);
      upper = tells_column w i row first upper c.state_in.new.self.rest.now c.loop-column.invariant.upper c.state_in.ensures.rest;
      lower = tells_column w i (row + 1) second lower c.colour_in-below.new.reader.rest.now c.loop-column.invariant.lower c.colour_in-below.ensures.rest;
    }

pub returns-clause-upper : goal.returns-clause-upper
returns-clause-upper g c =
    where_ok c.push_all.result _ (tells_row c.args.window c.loop-column.column (2 * c.args.line) (2 * (c.args.line + 1))
    c.args.upper.now.rest.now c.loop-column.upper.rest.now (omega arith) c.loop-column.invariant.upper)

pub returns-clause-lower : goal.returns-clause-lower
returns-clause-lower g c =
    where_ok c.push_all.result _ (tells_row c.args.window c.loop-column.column (2 * c.args.line + 1) (2 * (c.args.line + 1))
    c.args.lower.now.rest.now c.loop-column.lower.rest.now (omega arith) c.loop-column.invariant.lower)
