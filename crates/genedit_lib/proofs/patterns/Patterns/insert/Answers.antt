use Rattle.std.proofs.Common.{◌∙◌, ap}
use Rattle.std.specs.Prelude.{cond, Some}
use Rattle.std.proofs.lemmas.Map.Text.{is_eq-slice_cmp}
use Rattle.genedit_lib.specs.Patterns.{pattern_in}
use Rattle.genedit_lib.proofs.patterns.Patterns.insert.Goals as goal

pub returns-clause-named : goal.returns-clause-named
returns-clause-named c = λ other.
    c.in_ok-insert.ensures.updates.0 other
    ∙ ap (λ b. cond b (Some c.args.pattern) (pattern_in c.args.self.now other)) (is_eq-slice_cmp c.args.name other)
