use Rattle.std.proofs.Common.{◌∙◌, ◌++◌, take-append-drop, ◌≤◌, ◌<◌, arith, length}
use Rattle.std.proofs.lemmas.Bool.Decides.{nat_tests}
use Rattle.text_scan.proofs.WordLemmas.{no_word, first_word, word_has_bytes}
use Rattle.text_scan.proofs.word.split_word.Goals as goal

pub returns-then-is_empty-clause-word : goal.returns-then-is_empty-clause-word
returns-then-is_empty-clause-word c =
    let none : length c.without_blanks-rest.result.now ≤ 0 = grind (arith, nat_tests, c.if-is_empty.ensures) in
    no_word c.args.line.now c.without_blanks-rest.result.now c.without_blanks-rest.ensures.rest none

pub returns-clause-word : goal.returns-clause-word
returns-clause-word c =
    let some : 0 < length c.without_blanks-rest.result.now = grind (arith, nat_tests, c.if-is_empty.ensures) in
    first_word c.args.line.now c.without_blanks-rest.result.now c.split_at.result.0.now c.split_at.result.1.now c.word_len.result
    c.without_blanks-rest.ensures.rest some c.word_len.ensures.count c.split_at.ensures.front c.split_at.ensures.back

pub returns-clause-whole : goal.returns-clause-whole
returns-clause-whole c =
    (λ i. c.split_at.ensures.front i ++ c.split_at.ensures.back i) ∙ take-append-drop c.word_len.result c.without_blanks-rest.result.now ∙ c.without_blanks-rest.ensures.rest

pub returns-clause-shorter : goal.returns-clause-shorter
returns-clause-shorter c =
    let some : 0 < length c.without_blanks-rest.result.now = grind (arith, nat_tests, c.if-is_empty.ensures) in
    let bytes : 0 < c.word_len.result = word_has_bytes c.args.line.now c.without_blanks-rest.result.now c.word_len.result c.without_blanks-rest.ensures.rest some c.word_len.ensures.count in
    omega (arith, c.split_at.ensures.back_len, c.without_blanks-rest.ensures.within, some)
