use Rattle.std.proofs.Common.{◌∙◌, ◌+◌, ◌∷◌, ap, sym, take}
use Rattle.multistate_rle.specs.HeaderLine.{text_lines}
use Rattle.header_rules.proofs.LineLemmas.{line_ended, line_alone, rest_of}
use Rattle.header_rules.proofs.lines.split_line.Goals as goal

pub returns-then-end-text-clause-line : goal.returns-then-end-text-clause-line
returns-then-end-text-clause-line c =
    line_ended c.args.text.now c.line_len-end.result c.line_len-end.ensures.count c.if-end-text.true
    ∙ ap (λ rest. take c.line_len-end.result c.args.text.now ∷ text_lines rest) (sym (rest_of c.args.text.now (c.line_len-end.result + 1)))

pub returns-else-end-text-clause-line : goal.returns-else-end-text-clause-line
returns-else-end-text-clause-line c = line_alone c.args.text.now c.line_len-end.result c.line_len-end.ensures.count c.if-end-text.false
