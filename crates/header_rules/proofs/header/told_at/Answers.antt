use Rattle.std.proofs.Common.{◌∙◌, ◌<◌, ap, arith, length, Some}
use Rattle.std.proofs.lemmas.Bool.Decides.{nat_tests}
use Rattle.header_rules.specs.Families.{unbounded}
use Rattle.header_rules.specs.HeaderRule.{part_read, bounds_told, told_as}
use Rattle.header_rules.specs.SpelledRule.{rule_spelled}
use Rattle.header_rules.proofs.LineLemmas.{told_if_some}
use Rattle.header_rules.proofs.header.told_at.Goals as goal

pub returns-clause-told : goal.returns-clause-told
returns-clause-told c =
    let rest = c.args.rest.now in
    let place = c.args.place in
    let text = c.rule_text-text.result.now in
    let part = c.part_read-part.result.now in
    let some : 0 < length part = grind (arith, nat_tests, c.is_empty.ensures, c.if-is_empty.false) in
    ap (λ r. Some (record { place = place; length = length part; rule = r; bounds = c.bounds_told.result })) c.spelled_rule.ensures
    ∙ ap (λ b. Some (record { place = place; length = length part; rule = rule_spelled part; bounds = b })) c.bounds_told.ensures.told
    ∙ ap (λ f. Some (record { place = place; length = length part; rule = rule_spelled part; bounds = bounds_told place text f rest })) c.unbounded.ensures.front
    ∙ told_if_some place part (bounds_told place text (unbounded text) rest) some
    ∙ ap (λ p. told_as place p (bounds_told place text (unbounded text) rest)) c.part_read-part.ensures.part
    ∙ ap (λ t. told_as place (part_read t) (bounds_told place t (unbounded t) rest)) c.rule_text-text.ensures.text
