use Rattle.std.proofs.Common.{◌≡◌, ◌≤◌, ◌^◌, ◌∙◌, length, ap, arith}
use Rattle.std.proofs.lemmas.Result.{IfOk-weaker}
use Rattle.delta_exchange.specs.Spelling.{delta_text}
use Rattle.document_bodies.proofs.BodyTexts.{edit_is_short}
use Rattle.document_bodies.proofs.writing.edit_body.Goals as goal

pub returns-clause-short : goal.returns-clause-short
returns-clause-short c =
    let short = edit_is_short c.args.rule.now c.args.edit.now c.states-states.ensures.rule c.listed_cells-cells.ensures.edit in
    IfOk-weaker c.write_delta.result (λ text. text.items ≡ delta_text c.args.rule.now c.from_ref.result.now) (λ text. length text.items ≤ 2 ^ 24)
    (λ text spelt. omega (arith, short, ap length (spelt ∙ ap (delta_text c.args.rule.now) c.from_ref.ensures.value)))
    c.write_delta.ensures
