use Rattle.std.proofs.Common.{◌≡◌, ℕ, ◌+◌, ◌∷◌, [], ◌∙◌, ap, arith}
use Rattle.cell_pictures.specs.Plain.{character_of}
use Rattle.cell_pictures.specs.Shown.{state_at}
use Rattle.cell_pictures.specs.Window.{place_in}
use Rattle.cell_pictures.proofs.DrawnLaws.{added_as, added_push, text_more}
use Rattle.cell_pictures.proofs.RowLaws.{tells_column, tells_row, told_here, where_ok}
use Rattle.cell_pictures.proofs.plain.plain_row.Goals as goal

pub loop-column-preserved : goal.loop-column-preserved
loop-column-preserved g c =
    let w = c.args.window in
    let i = c.loop-column.column in
    let old = c.args.reader.now.rest.now in
    let rest = c.loop-column.reader.rest.now in
    let state : c.state_in-state.result ≡ state_at old (place_in w i c.args.row) = c.state_in-state.ensures.state ∙ told_here (place_in w i c.args.row) old rest c.loop-column.invariant.tells in
    let text : (c.character_of.result ∷ []) ≡ character_of c.args.states (state_at old (place_in w i c.args.row)) ∷ [] =
    ap (λ n. n ∷ []) (c.character_of.ensures ∙ ap (λ (s : ℕ). character_of c.args.states s) state) in
    record {
      drawn = text_more (g.K.Sink.known c.args.sink.now) (g.K.Sink.known c.loop-column.sink) (g.K.Sink.known c.push_all.new.self) i
          (λ column. character_of c.args.states (state_at old (place_in w column c.args.row)) ∷ []) c.loop-column.invariant.drawn
          (added_as _ _ _ _ text (added_push _ _ _ _ c.in_ok-push_all.ensures));
      tells = tells_column w i c.args.row old rest c.state_in-state.new.self.rest.now c.loop-column.invariant.tells c.state_in-state.ensures.rest;
    }

pub returns-clause-rest : goal.returns-clause-rest
returns-clause-rest g c =
    where_ok c.push_all-2.result _ (tells_row c.args.window c.loop-column.column c.args.row (c.args.row + 1) c.args.reader.now.rest.now c.loop-column.reader.rest.now (omega arith) c.loop-column.invariant.tells)
