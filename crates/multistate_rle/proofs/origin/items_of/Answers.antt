use Rattle.std.proofs.Common.{◌≡◌, ◌<◌, ◌∙◌, sym, ap, arith, length, take, drop}
use Rattle.std.specs.Prelude.{Some, None}
use Rattle.std.specs.List.{position_or_len}
use Rattle.std.proofs.lemmas.Bool.Decides.{nat_tests}
use Rattle.text_scan.specs.Bytes.{is_space_or_tab, past_prefix, ◌>=>◌}
use Rattle.multistate_rle.specs.Position.{items_in, no_items, one_item_more}
use Rattle.text_scan.specs.Words.{words}
use Rattle.text_scan.proofs.SplitLemmas.{words_trimmed, trimmed_twice, next_word, NextWord}
use Rattle.multistate_rle.proofs.OriginLemmas.{items_step}
use Rattle.multistate_rle.proofs.origin.items_of.Goals as goal

pub loop-rest-init : goal.loop-rest-init
loop-rest-init c = rw (c.without_blanks-rest.ensures.rest, c.new-items.ensures) (record { items_are = ap (items_in no_items) (words_trimmed c.args.line.now); trimmed = trimmed_twice c.args.line.now })

pub returns-in_err-items : goal.returns-in_err-items
returns-in_err-items c =
    let some : 0 < length c.loop-rest.rest.now = grind (arith, nat_tests, c.loop-rest-test.ensures) in
    let next : NextWord c.loop-rest.rest.now = next_word c.loop-rest.rest.now some c.loop-rest.invariant.trimmed in
    let word : one_item_more (take (position_or_len is_space_or_tab c.loop-rest.rest.now) c.loop-rest.rest.now) c.loop-rest.items ≡ None =
    ap (λ word. one_item_more word c.loop-rest.items) (sym (c.split_at.ensures.front ∙ ap (λ n. take n c.loop-rest.rest.now) c.word_len.ensures.count)) ∙ sym c.in_err-items.ensures in
    c.from_residual.ensures
    ∙ sym (ap (λ o. o >=> λ more. items_in more (words (past_prefix is_space_or_tab (drop (position_or_len is_space_or_tab c.loop-rest.rest.now) c.loop-rest.rest.now)))) word)
    ∙ sym (items_step c.loop-rest.rest.now c.loop-rest.items next) ∙ c.loop-rest.invariant.items_are

pub loop-rest-preserved : goal.loop-rest-preserved
loop-rest-preserved c =
    let some : 0 < length c.loop-rest.rest.now = grind (arith, nat_tests, c.loop-rest-test.ensures) in
    let next : NextWord c.loop-rest.rest.now = next_word c.loop-rest.rest.now some c.loop-rest.invariant.trimmed in
    let word : one_item_more (take (position_or_len is_space_or_tab c.loop-rest.rest.now) c.loop-rest.rest.now) c.loop-rest.items ≡ Some c.in_ok-items.items =
    ap (λ word. one_item_more word c.loop-rest.items) (sym (c.split_at.ensures.front ∙ ap (λ n. take n c.loop-rest.rest.now) c.word_len.ensures.count)) ∙ sym c.in_ok-items.ensures in
    record {
      items_are =
          ap (λ later. items_in c.in_ok-items.items (words later)) (c.without_blanks-rest-in-loop-rest.ensures.rest ∙ ap (past_prefix is_space_or_tab) (c.split_at.ensures.back ∙ ap (λ n. drop n c.loop-rest.rest.now) c.word_len.ensures.count))
          ∙ sym (ap (λ o. o >=> λ more. items_in more (words (past_prefix is_space_or_tab (drop (position_or_len is_space_or_tab c.loop-rest.rest.now) c.loop-rest.rest.now)))) word)
          ∙ sym (items_step c.loop-rest.rest.now c.loop-rest.items next) ∙ c.loop-rest.invariant.items_are;
      trimmed = rw c.without_blanks-rest-in-loop-rest.ensures.rest (trimmed_twice c.split_at.result.1.now);
    }
