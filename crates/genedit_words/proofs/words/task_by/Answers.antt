use Rattle.std.proofs.Common.{◌∙◌, ap}
use Rattle.clap.specs.Matches.{found_of}
use Rattle.clap.specs.Walk.{rows_of}
use Rattle.genedit_words.specs.declared.subcommand.Subcommand.{Subcommand}
use Rattle.genedit_words.specs.Words.{asked_by}
use Rattle.genedit_words.proofs.ParseLaws.{is_asked}
use Rattle.genedit_words.proofs.words.task_by.Goals as goal

pub returns-in-Rle-clause-asked : goal.returns-in-Rle-clause-asked
returns-in-Rle-clause-asked c = c.ruled.ensures.asked _ (ap (λ (s : Subcommand). asked_by s (rows_of (found_of c.args.words.now))) c.in-Rle.is ∙ c.rle.ensures.asked)

pub returns-in-View-clause-asked : goal.returns-in-View-clause-asked
returns-in-View-clause-asked c = c.ruled-in-View.ensures.asked _ (ap (λ (s : Subcommand). asked_by s (rows_of (found_of c.args.words.now))) c.in-View.is ∙ c.view.ensures.asked)

pub returns-in-Convert-clause-asked : goal.returns-in-Convert-clause-asked
returns-in-Convert-clause-asked c = c.ruled-in-Convert.ensures.asked _ (ap (λ (s : Subcommand). asked_by s (rows_of (found_of c.args.words.now))) c.in-Convert.is ∙ c.convert.ensures.asked)

pub returns-in-Serve-clause-asked : goal.returns-in-Serve-clause-asked
returns-in-Serve-clause-asked c = is_asked _ c.serve.result (ap (λ (s : Subcommand). asked_by s (rows_of (found_of c.args.words.now))) c.in-Serve.is ∙ c.serve.ensures.asked)

pub returns-in-New-clause-asked : goal.returns-in-New-clause-asked
returns-in-New-clause-asked c = c.ruled-in-New.ensures.asked _ (ap (λ (s : Subcommand). asked_by s (rows_of (found_of c.args.words.now))) c.in-New.is ∙ c.new_document.ensures.asked)
