use Rattle.std.proofs.Common.{◌≤◌, ◌<◌, arith, length}
use Rattle.std.proofs.lemmas.Bool.Decides.{nat_tests}
use Rattle.command_words.proofs.QuoteLaws.{first_word, no_word}
use Rattle.command_words.proofs.dialect.split_client_word.Goals as goal

pub returns-then-is_empty-clause-word : goal.returns-then-is_empty-clause-word
returns-then-is_empty-clause-word c =
    let none : length c.without_blanks-rest.result.now ≤ 0 = grind (arith, nat_tests, c.if-is_empty.ensures) in
    no_word c.args.line.now c.without_blanks-rest.result.now c.without_blanks-rest.ensures.rest none

pub returns-clause-word : goal.returns-clause-word
returns-clause-word c =
    let some : 0 < length c.without_blanks-rest.result.now = grind (arith, nat_tests, c.if-is_empty.ensures) in
    first_word c.args.line.now c.without_blanks-rest.result.now c.split_at.result.0.now c.split_at.result.1.now c.client_word_len.result
    c.without_blanks-rest.ensures.rest some c.client_word_len.ensures.count c.split_at.ensures.front c.split_at.ensures.back
