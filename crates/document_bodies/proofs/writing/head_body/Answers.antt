use Rattle.std.proofs.Common.{◌≡◌, ◌<◌, ◌^◌, [], length, ap, arith}
use Rattle.std.proofs.lemmas.Result.{IfOk-weaker}
use Rattle.delta_exchange.specs.Spelling.{delta_text}
use Rattle.document_bodies.proofs.BodyTexts.{head_is_short}
use Rattle.document_bodies.proofs.writing.head_body.Goals as goal

pub returns-clause-short : goal.returns-clause-short
returns-clause-short c =
    let short = head_is_short c.args.rule.now c.states-states.ensures.rule in
    IfOk-weaker c.write_delta.result (λ text. text.items ≡ delta_text c.args.rule.now []) (λ text. length text.items < 2 ^ 24)
    (λ text spelt. omega (arith, short, ap length spelt))
    c.write_delta.ensures
