use Rattle.std.proofs.Common.{◌≡◌, ◌∙◌, ◌≤◌, ℕ, Option, ap, subst, codes, arith}
use Rattle.std.specs.Prelude.{unwrap_or}
use Rattle.std.specs.Str.Parse.{ParsesUnsigned, ExplainsUnsignedError, HasUnsignedDigitsIfOk}
use Rattle.clap.proofs.WalkLemmas.{one_text-rows}
use Rattle.clap.specs.Matches.{found_of}
use Rattle.clap.specs.Walk.{rows_of}
use Rattle.genedit_words.specs.Words.{number_of}
use Rattle.genedit_words.proofs.NumberLaws.{is_number_if, is_within_or}
use Rattle.genedit_words.proofs.words.first_seat.Goals as goal

pub returns-in-Some-clause-value : goal.returns-in-Some-clause-value
returns-in-Some-clause-value c =
    let same = one_text-rows (found_of c.args.words.now) (codes "first") in
    let read : number_of (codes "first") (rows_of (found_of c.args.words.now)) ≡ c.get_one.result = is_number_if 16 (λ bs r. ParsesUnsigned 16 10 bs r × ExplainsUnsignedError 10 bs r × HasUnsignedDigitsIfOk bs r) (λ u x g. g.0)
    1 65472 (codes "first") (rows_of (found_of c.args.words.now)) c.get_one.result (λ none. c.get_one.ensures.none (same ∙ none)) (λ t e. c.get_one.ensures.value t (same ∙ e)) (omega arith) c.requires in
    ap (λ (o : Option ℕ). unwrap_or o 1) (read ∙ c.in-Some.is)

pub returns-in-Some-clause-range : goal.returns-in-Some-clause-range
returns-in-Some-clause-range c =
    let same = one_text-rows (found_of c.args.words.now) (codes "first") in
    subst (λ (o : Option ℕ). (1 ≤ unwrap_or o 1) × (unwrap_or o 1 ≤ 65472)) c.in-Some.is
    (is_within_or 16 (λ bs r. ParsesUnsigned 16 10 bs r × ExplainsUnsignedError 10 bs r × HasUnsignedDigitsIfOk bs r) (λ u x g. g.0)
    1 65472 1 (codes "first") (rows_of (found_of c.args.words.now)) c.get_one.result (λ none. c.get_one.ensures.none (same ∙ none)) (λ t e. c.get_one.ensures.value t (same ∙ e)) (omega arith) (omega arith) (omega arith) c.requires)

pub returns-in-None-clause-value : goal.returns-in-None-clause-value
returns-in-None-clause-value c =
    let same = one_text-rows (found_of c.args.words.now) (codes "first") in
    let read : number_of (codes "first") (rows_of (found_of c.args.words.now)) ≡ c.get_one.result = is_number_if 16 (λ bs r. ParsesUnsigned 16 10 bs r × ExplainsUnsignedError 10 bs r × HasUnsignedDigitsIfOk bs r) (λ u x g. g.0)
    1 65472 (codes "first") (rows_of (found_of c.args.words.now)) c.get_one.result (λ none. c.get_one.ensures.none (same ∙ none)) (λ t e. c.get_one.ensures.value t (same ∙ e)) (omega arith) c.requires in
    ap (λ (o : Option ℕ). unwrap_or o 1) (read ∙ c.in-None.is)
