use Rattle.std.proofs.Common.{◌∙◌}
use Rattle.clap.proofs.WalkLemmas.{first_value-rows}
use Rattle.clap.specs.Matches.{found_of}
use Rattle.clap.specs.Walk.{first_of, rows_of}
use Rattle.genedit_words.proofs.TextLaws.{is_there}
use Rattle.genedit_words.proofs.words.is_told.Goals as goal

pub returns : goal.returns
returns c =
    let found = found_of c.args.words.now in
    c.is_some.ensures ∙ is_there c.get_str.result (first_of c.args.id.now (rows_of found)) (c.get_str.ensures ∙ first_value-rows found c.args.id.now)
