use Rattle.std.proofs.Common.{◌≡◌, ◌∙◌, ◌++◌}
use Rattle.std.specs.Prelude.{◌==◌}
use Rattle.std.proofs.lemmas.Result.{IfOk-weaker}
use Rattle.generations_rule.specs.RuleText.{text_of}
use Rattle.multistate_rle.specs.Writing.{head_lines, body}
use Rattle.multistate_rle.specs.Bounds.{in_box, bounds_of}
use Rattle.multistate_rle.specs.Tokens.{tokens_from}
use Rattle.multistate_rle.proofs.writing.write.Goals as goal

pub returns : goal.returns
returns c =
    let rule : c.deref.result.now ≡ text_of c.args.rule.now = c.deref.ensures.value ∙ c.in_ok-rule_text.ensures.printed in
    let front : c.in_ok-text.text.items ≡ head_lines (text_of c.args.rule.now) c.args.generation (bounds_of c.args.cells.now) =
    c.in_ok-text.ensures ∙ (λ i. head_lines (rule i) c.args.generation (c.bounds_of-bounds.ensures i)) in
    IfOk-weaker c.with_body.result _ _ (λ text is. is
    ∙ (λ i. front i ++ body (c.states.ensures.value i == 2) (tokens_from 0 0 (in_box (c.bounds_of-bounds.ensures i) c.args.cells.now)))) c.with_body.ensures
