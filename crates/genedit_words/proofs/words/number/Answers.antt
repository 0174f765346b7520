use Rattle.std.proofs.Common.{◌≡◌, ◌∙◌, ◌≤◌, ℕ, Some, refl, sym, subst, arith}
use Rattle.std.specs.Option.{IsSome}
use Rattle.std.specs.Str.Parse.{ParsesUnsigned, ExplainsUnsignedError, HasUnsignedDigitsIfOk}
use Rattle.clap.proofs.WalkLemmas.{one_text-rows}
use Rattle.clap.specs.Matches.{found_of}
use Rattle.clap.specs.Walk.{rows_of}
use Rattle.genedit_words.proofs.NumberLaws.{is_number, is_within}
use Rattle.genedit_words.proofs.words.number.Goals as goal

pub unwrap-requires : goal.unwrap-requires
unwrap-requires c =
    let got = is_within 16 (λ bs r. ParsesUnsigned 16 10 bs r × ExplainsUnsignedError 10 bs r × HasUnsignedDigitsIfOk bs r) (λ u x g. g.0)
    0 65535 c.args.id.now (rows_of (found_of c.args.words.now)) c.get_one.result (λ t e. c.get_one.ensures.value t (one_text-rows (found_of c.args.words.now) c.args.id.now ∙ e)) (omega arith) c.requires in
    subst IsSome (sym got.1) refl

pub returns-clause-value : goal.returns-clause-value
returns-clause-value c =
    is_number 16 (λ bs r. ParsesUnsigned 16 10 bs r × ExplainsUnsignedError 10 bs r × HasUnsignedDigitsIfOk bs r) (λ u x g. g.0)
    c.args.id.now (rows_of (found_of c.args.words.now)) c.get_one.result c.unwrap.result (λ t e. c.get_one.ensures.value t (one_text-rows (found_of c.args.words.now) c.args.id.now ∙ e)) c.requires c.unwrap.ensures

pub returns-clause-within : goal.returns-clause-within
returns-clause-within c = λ low high small has.
    let got = is_within 16 (λ bs r. ParsesUnsigned 16 10 bs r × ExplainsUnsignedError 10 bs r × HasUnsignedDigitsIfOk bs r) (λ u x g. g.0)
    low high c.args.id.now (rows_of (found_of c.args.words.now)) c.get_one.result (λ t e. c.get_one.ensures.value t (one_text-rows (found_of c.args.words.now) c.args.id.now ∙ e)) (omega (arith, small)) has in
    let same : Some got.0 ≡ Some c.unwrap.result = sym got.1 ∙ c.unwrap.ensures in
    let is : got.0 ≡ c.unwrap.result = cc in
    subst (λ (n : ℕ). (low ≤ n) × (n ≤ high)) is (got.2, got.3)
