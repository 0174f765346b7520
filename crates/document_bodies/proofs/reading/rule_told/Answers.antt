use Rattle.std.proofs.Common.{◌∙◌, ap}
use Rattle.std.specs.Result.{result_ok}
use Rattle.generations_rule.specs.RuleText.{parsed}
use Rattle.generations_rule.proofs.TextLaws.{reads_back}
use Rattle.document_bodies.proofs.BodyTexts.{has_text, is_long, is_not_cut, is_text}
use Rattle.document_bodies.proofs.reading.rule_told.Goals as goal

pub returns-then-head-lt-BEFORE_RULE-clause-only : goal.returns-then-head-lt-BEFORE_RULE-clause-only
returns-then-head-lt-BEFORE_RULE-clause-only c r is e = absurd (is_long r c.args.head.now e c.if-head-lt-BEFORE_RULE.true)

pub returns-then-size-behind-clause-only : goal.returns-then-size-behind-clause-only
returns-then-size-behind-clause-only c r is e =
    let has = has_text r c.args.head.now c.split_at.result.0.now c.split_at.result.1.now c.from-size.result is e c.split_at.ensures.front c.split_at.ensures.back c.from-size.ensures in
    absurd (is_not_cut r c.split_at.result.1.now c.from-size.result has.0 has.1 c.if-size-behind.true)

pub returns-clause-only : goal.returns-clause-only
returns-clause-only c r is e =
    let has = has_text r c.args.head.now c.split_at.result.0.now c.split_at.result.1.now c.from-size.result is e c.split_at.ensures.front c.split_at.ensures.back c.from-size.ensures in
    let text = is_text r c.split_at.result.1.now c.split_at-2.result.0.now c.from-size.result has.0 has.1 c.split_at-2.ensures.front in
    c.ok.ensures.value ∙ ap result_ok (c.parse.ensures ∙ ap parsed text ∙ reads_back r is)
