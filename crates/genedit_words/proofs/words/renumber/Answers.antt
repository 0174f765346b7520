use Rattle.std.proofs.Common.{◌∙◌, codes, arith}
use Rattle.std.specs.Str.Parse.{ParsesUnsigned, ExplainsUnsignedError, HasUnsignedDigitsIfOk}
use Rattle.clap.proofs.WalkLemmas.{one_text-rows}
use Rattle.clap.specs.Matches.{found_of}
use Rattle.clap.specs.Walk.{rows_of}
use Rattle.genedit_words.proofs.NumberLaws.{is_number_if, is_within_if}
use Rattle.genedit_words.proofs.words.renumber.Goals as goal

pub returns-clause-value : goal.returns-clause-value
returns-clause-value c =
    let same = one_text-rows (found_of c.args.words.now) (codes "renumber") in
    is_number_if 16 (λ bs r. ParsesUnsigned 16 10 bs r × ExplainsUnsignedError 10 bs r × HasUnsignedDigitsIfOk bs r) (λ u x g. g.0)
    65 65535 (codes "renumber") (rows_of (found_of c.args.words.now)) c.get_one.result (λ none. c.get_one.ensures.none (same ∙ none)) (λ t e. c.get_one.ensures.value t (same ∙ e)) (omega arith) c.requires

pub returns-clause-range : goal.returns-clause-range
returns-clause-range c =
    let same = one_text-rows (found_of c.args.words.now) (codes "renumber") in
    is_within_if 16 (λ bs r. ParsesUnsigned 16 10 bs r × ExplainsUnsignedError 10 bs r × HasUnsignedDigitsIfOk bs r) (λ u x g. g.0)
    65 65535 (codes "renumber") (rows_of (found_of c.args.words.now)) c.get_one.result (λ none. c.get_one.ensures.none (same ∙ none)) (λ t e. c.get_one.ensures.value t (same ∙ e)) (omega arith) c.requires
