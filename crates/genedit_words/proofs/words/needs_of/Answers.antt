use Rattle.std.proofs.Common.{◌∙◌, Some, codes, ap, sym, refl}
use Rattle.clap.specs.Matches.{found_of}
use Rattle.clap.specs.Simple.{subcommand_rows_of}
use Rattle.clap.specs.Walk.{rows_of}
use Rattle.genedit_words.specs.declared.needs.Needs.{Needs}
use Rattle.genedit_words.proofs.ParseLaws.{is_met, needs_by}
use Rattle.genedit_words.proofs.words.needs_of.Goals as goal

pub returns-in-Some : goal.returns-in-Some
returns-in-Some c =
    let rows = rows_of (found_of c.in-Some.words.now) in
    let met = is_met c.args.matches.now rows c.requires (codes "serve") (c.in-Some.ensures.found.0 refl) c.in-Some.ensures.rows in
    needs_by (subcommand_rows_of c.args.matches.now) rows met.0 ∙ ap (λ (needs : Needs). Some needs) (sym c.server_needs.ensures)
