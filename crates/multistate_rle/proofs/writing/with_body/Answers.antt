use Rattle.std.proofs.Common.{◌∙◌, [], ◌∷◌, subst, map}
use Rattle.std.proofs.lemmas.Result.{IfOk-weaker}
use Rattle.multistate_rle.specs.Writing.{token_text, spelling}
use Rattle.multistate_rle.specs.Letters.{plain}
use Rattle.multistate_rle.specs.Bounds.{in_box}
use Rattle.multistate_rle.specs.Tokens.{tokens_from}
use Rattle.multistate_rle.specs.Filling.{WritesPieces}
use Rattle.multistate_rle.proofs.FillLemmas.{body_written}
use Rattle.multistate_rle.proofs.writing.with_body.Goals as goal

pub returns : goal.returns
returns c =
    let cells : WritesPieces c.after-lines.result (map (token_text c.args.two_states) (tokens_from 0 0 (in_box c.args.bounds.now c.args.cells.now))) c.put_cells.new.lines =
    subst (λ two. WritesPieces c.after-lines.result (map (token_text two) (tokens_from 0 0 (in_box c.args.bounds.now c.args.cells.now))) c.put_cells.new.lines) c.after-lines.ensures.2 c.in_ok-put_cells.ensures in
    let mark : WritesPieces c.put_cells.new.lines (spelling 1 (plain 33) ∷ []) c.put.new.self =
    subst (λ letters. WritesPieces c.put_cells.new.lines (spelling 1 letters ∷ []) c.put.new.self) c.plain.ensures c.in_ok-put.ensures in
    IfOk-weaker c.ended.result _ _ (λ text is. is ∙ body_written c.args.text.items c.args.two_states (map (token_text c.args.two_states) (tokens_from 0 0 (in_box c.args.bounds.now c.args.cells.now))) (spelling 1 (plain 33))
    c.after-lines.result c.put_cells.new.lines c.put.new.self c.after-lines.ensures.0 c.after-lines.ensures.1 cells mark) c.ended.ensures
