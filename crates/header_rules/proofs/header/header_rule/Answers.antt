use Rattle.std.proofs.Common.{◌∙◌, ◌+◌, ◌-◌, ap, sym, length}
use Rattle.text_scan.specs.Bytes.{◌>=>◌}
use Rattle.header_rules.specs.HeaderRule.{behind_rule, told_at, told_in_line}
use Rattle.header_rules.proofs.LineLemmas.{no_sides}
use Rattle.header_rules.proofs.header.header_rule.Goals as goal

pub returns-clause-told : goal.returns-clause-told
returns-clause-told c =
    let line = c.in_ok-line.line in
    c.told_at.ensures.told
    ∙ ap (λ o. o >=> λ rest. told_at (line.start + (length line.text.now - length rest)) rest) c.in_ok-rest.ensures.rest
    ∙ ap (λ o. o >=> λ rest. behind_rule rest >=> λ rest. told_at (line.start + (length line.text.now - length rest)) rest) c.in_ok-behind_sides.ensures.rest
    ∙ ap (λ o. o >=> told_in_line) c.in_ok-line.ensures.line

pub returns-clause-no_header : goal.returns-clause-no_header
returns-clause-no_header c none =
    absurd (no_sides c.args.text.now (record { start = c.in_ok-line.line.start; text = c.in_ok-line.line.text.now }) c.in_ok-behind_sides.field-0.now none
    (sym c.in_ok-line.ensures.line) (sym c.in_ok-behind_sides.ensures.rest))
