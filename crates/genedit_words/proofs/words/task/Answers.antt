use Rattle.std.proofs.Common.{Option, sym, subst}
use Rattle.std.specs.Prelude.{Result}
use Rattle.clap.specs.Matches.{found_of}
use Rattle.clap.specs.Simple.{subcommand_rows_of}
use Rattle.clap.specs.Walk.{rows_of}
use Rattle.genedit_words.specs.Misspelt.{Misspelt}
use Rattle.genedit_words.specs.Told.{Told}
use Rattle.genedit_words.specs.Words.{IsAsked}
use Rattle.genedit_words.proofs.ParseLaws.{asked_for, has_for, is_met}
use Rattle.genedit_words.proofs.words.task.Goals as goal

pub task_by-requires-clause-has : goal.task_by-requires-clause-has
task_by-requires-clause-has c =
    let rows = rows_of (found_of c.in-Some.words.now) in
    let met = is_met c.args.matches.now rows c.requires.named c.in-Some.name.now (sym c.in-Some.ensures.name) (sym c.in-Some.ensures.rows) in
    has_for c.in-Some.name.now rows c.in-Some-named.subcommand met.1 (sym c.in-Some-named.ensures)

pub returns-clause-asked : goal.returns-clause-asked
returns-clause-asked c =
    let rows = rows_of (found_of c.in-Some.words.now) in
    let met = is_met c.args.matches.now rows c.requires.named c.in-Some.name.now (sym c.in-Some.ensures.name) (sym c.in-Some.ensures.rows) in
    subst (λ (asked : Option (Result Told Misspelt)). IsAsked asked c.task_by.result)
    (sym (asked_for (subcommand_rows_of c.args.matches.now) c.in-Some.name.now rows c.in-Some-named.subcommand met.0 (sym c.in-Some-named.ensures))) c.task_by.ensures.asked
