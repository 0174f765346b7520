use Rattle.std.proofs.Common.{◌∙◌, arith}
use Rattle.std.specs.Str.Parse.{ParsesUnsigned, ExplainsUnsignedError, HasUnsignedDigitsIfOk}
use Rattle.clap.proofs.WalkLemmas.{one_text-rows}
use Rattle.clap.specs.Matches.{found_of}
use Rattle.clap.specs.Walk.{rows_of}
use Rattle.genedit_words.proofs.NumberLaws.{is_number_if, is_within_if}
use Rattle.genedit_words.proofs.words.number_if_given.Goals as goal

pub returns-clause-value : goal.returns-clause-value
returns-clause-value c =
    let same = one_text-rows (found_of c.args.words.now) c.args.id.now in
    let small = c.requires.2 in
    is_number_if 16 (λ bs r. ParsesUnsigned 16 10 bs r × ExplainsUnsignedError 10 bs r × HasUnsignedDigitsIfOk bs r) (λ u x g. g.0)
    c.requires.0 c.requires.1 c.args.id.now (rows_of (found_of c.args.words.now)) c.get_one.result (λ none. c.get_one.ensures.none (same ∙ none)) (λ t e. c.get_one.ensures.value t (same ∙ e)) (omega (arith, small)) c.requires.3

pub returns-clause-within : goal.returns-clause-within
returns-clause-within c = λ low high small has.
    let same = one_text-rows (found_of c.args.words.now) c.args.id.now in
    is_within_if 16 (λ bs r. ParsesUnsigned 16 10 bs r × ExplainsUnsignedError 10 bs r × HasUnsignedDigitsIfOk bs r) (λ u x g. g.0)
    low high c.args.id.now (rows_of (found_of c.args.words.now)) c.get_one.result (λ none. c.get_one.ensures.none (same ∙ none)) (λ t e. c.get_one.ensures.value t (same ∙ e)) (omega (arith, small)) has
