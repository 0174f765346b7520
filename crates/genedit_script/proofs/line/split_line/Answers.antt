use Rattle.std.proofs.Common.{◌∙◌, sym, arith, ◌∷◌, ◌+◌, ◌≢◌, length}
use Rattle.std.specs.Str.Lines.{lines}
use Rattle.std.proofs.lemmas.Bool.Decides.{nat_tests}
use Rattle.genedit_script.proofs.LineLemmas.{ended_line, only_line, rest_whole}
use Rattle.genedit_script.proofs.line.split_line.Goals as goal

pub returns-in-Some-clause-line : goal.returns-in-Some-clause-line
returns-in-Some-clause-line c =
    ended_line c.args.text.now c.in-Some.at c.in-Some.ensures.found
    ∙ (λ i. sym c.without_return.ensures i ∷ lines (sym (rest_whole (c.in-Some.at + 1) c.args.text.now) i))

pub returns-in-None-clause-line : goal.returns-in-None-clause-line
returns-in-None-clause-line c =
    only_line c.args.text.now (let some : length c.args.text.now ≢ 0 = grind (arith, nat_tests, c.if-is_empty.ensures) in some) c.in-None.ensures.found
