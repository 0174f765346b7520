use Rattle.std.proofs.Common.{◌∙◌, sym, ap, true, false}
use Rattle.multistate_rle.specs.Position.{origin_from}
use Rattle.std.specs.Prelude.{Some, option_map}
use Rattle.multistate_rle.proofs.OriginLemmas.{origin_is, not_is}
use Rattle.multistate_rle.proofs.origin.origin_of.Goals as goal

pub returns-then-ne : goal.returns-then-ne
returns-then-ne c =
    sym (origin_is c.args.line.now c.without_blanks-line.result.now c.split_at.result.0.now c.split_at.result.1.now c.as_slice.result.now c.word_len.result false
    c.without_blanks-line.ensures.rest c.word_len.ensures.count c.split_at.ensures.front c.split_at.ensures.back c.as_slice.ensures (sym (not_is _ true (sym c.if-ne.ensures))))

pub returns-in_err-items_of : goal.returns-in_err-items_of
returns-in_err-items_of c =
    c.from_residual.ensures ∙ ap (λ o. option_map origin_from o) c.in_err-items_of.ensures
    ∙ sym (origin_is c.args.line.now c.without_blanks-line.result.now c.split_at.result.0.now c.split_at.result.1.now c.as_slice.result.now c.word_len.result true
    c.without_blanks-line.ensures.rest c.word_len.ensures.count c.split_at.ensures.front c.split_at.ensures.back c.as_slice.ensures (sym (not_is _ false (sym c.if-ne.ensures))))

pub returns : goal.returns
returns c =
    ap (λ o. Some o) c.origin.ensures ∙ ap (λ o. option_map origin_from o) c.in_ok-items_of.ensures
    ∙ sym (origin_is c.args.line.now c.without_blanks-line.result.now c.split_at.result.0.now c.split_at.result.1.now c.as_slice.result.now c.word_len.result true
    c.without_blanks-line.ensures.rest c.word_len.ensures.count c.split_at.ensures.front c.split_at.ensures.back c.as_slice.ensures (sym (not_is _ false (sym c.if-ne.ensures))))
