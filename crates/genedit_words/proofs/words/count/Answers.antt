use Rattle.std.proofs.Common.{◌∙◌, refl, sym, subst, arith}
use Rattle.std.specs.Option.{IsSome}
use Rattle.std.specs.Str.Parse.{ParsesUnsigned, ExplainsUnsignedError, HasUnsignedDigitsIfOk}
use Rattle.clap.proofs.WalkLemmas.{one_text-rows}
use Rattle.clap.specs.Matches.{found_of}
use Rattle.clap.specs.Walk.{rows_of}
use Rattle.genedit_words.proofs.NumberLaws.{is_number, is_within}
use Rattle.genedit_words.proofs.words.count.Goals as goal

pub unwrap-requires : goal.unwrap-requires
unwrap-requires c =
    let got = is_within 32 (λ bs r. ParsesUnsigned 32 10 bs r × ExplainsUnsignedError 10 bs r × HasUnsignedDigitsIfOk bs r) (λ u x g. g.0)
    0 4294967295 c.args.id.now (rows_of (found_of c.args.words.now)) c.get_one.result (λ t e. c.get_one.ensures.value t (one_text-rows (found_of c.args.words.now) c.args.id.now ∙ e)) (omega arith) c.requires in
    subst IsSome (sym got.1) refl

pub returns : goal.returns
returns c =
    is_number 32 (λ bs r. ParsesUnsigned 32 10 bs r × ExplainsUnsignedError 10 bs r × HasUnsignedDigitsIfOk bs r) (λ u x g. g.0)
    c.args.id.now (rows_of (found_of c.args.words.now)) c.get_one.result c.unwrap.result (λ t e. c.get_one.ensures.value t (one_text-rows (found_of c.args.words.now) c.args.id.now ∙ e)) c.requires c.unwrap.ensures
