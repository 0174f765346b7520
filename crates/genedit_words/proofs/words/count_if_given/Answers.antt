use Rattle.std.proofs.Common.{◌∙◌}
use Rattle.std.specs.Str.Parse.{ParsesUnsigned, ExplainsUnsignedError, HasUnsignedDigitsIfOk}
use Rattle.clap.proofs.WalkLemmas.{one_text-rows}
use Rattle.clap.specs.Matches.{found_of}
use Rattle.clap.specs.Walk.{rows_of}
use Rattle.genedit_words.proofs.NumberLaws.{is_number_if}
use Rattle.genedit_words.proofs.words.count_if_given.Goals as goal

pub returns : goal.returns
returns c =
    let same = one_text-rows (found_of c.args.words.now) c.args.id.now in
    is_number_if 32 (λ bs r. ParsesUnsigned 32 10 bs r × ExplainsUnsignedError 10 bs r × HasUnsignedDigitsIfOk bs r) (λ u x g. g.0)
    0 c.requires.0 c.args.id.now (rows_of (found_of c.args.words.now)) c.get_one.result (λ none. c.get_one.ensures.none (same ∙ none)) (λ t e. c.get_one.ensures.value t (same ∙ e)) c.requires.1 c.requires.2
