use Rattle.std.proofs.Common.{◌∙◌, Option, Some, Ok, codes, ap, sym}
use Rattle.std.specs.Prelude.{Result}
use Rattle.generations_rule.specs.Rule.{GenerationsRule}
use Rattle.clap.proofs.WalkLemmas.{first_value-rows}
use Rattle.clap.specs.Matches.{found_of}
use Rattle.clap.specs.Walk.{rows_of}
use Rattle.genedit_words.specs.Told.{View, or_misspelt}
use Rattle.genedit_words.specs.declared.misspelt.MisspeltRule.{MisspeltRule}
use Rattle.genedit_words.specs.Words.{view_task}
use Rattle.genedit_words.proofs.TextLaws.{is_viewing}
use Rattle.genedit_words.proofs.words.view.Goals as goal

pub returns-clause-asked : goal.returns-clause-asked
returns-clause-asked c =
    let found = found_of c.args.words.now in
    let rows = rows_of found in
    let same = is_viewing rows c.in_ok-rule.rule c.generation.result c.count_if_given.result c.number_if_given.result c.is_set.result c.is_set-2.result
    c.file.ensures (c.get_str.ensures ∙ first_value-rows found (codes "at")) (c.get_str-2.ensures ∙ first_value-rows found (codes "size")) (c.get_str-3.ensures ∙ first_value-rows found (codes "chart"))
    c.generation.ensures c.count_if_given.ensures c.number_if_given.ensures.value c.is_set.ensures c.is_set-2.ensures in
    ap Some (ap (view_task rows) (sym c.rule_if_given.ensures ∙ ap (λ (r : Result (Option GenerationsRule) MisspeltRule). or_misspelt r) c.in_ok-rule.was) ∙ ap Ok (ap View same))
