use Rattle.std.proofs.Common.{sym, refl}
use Rattle.multistate_rle.proofs.RunLemmas.{prefixed}
use Rattle.multistate_rle.proofs.ahead.token_at.Goals as goal

pub returns-then-is_prefix-clause-front : goal.returns-then-is_prefix-clause-front
returns-then-is_prefix-clause-front c =
    prefixed c.args.text.now c.args.start c.count_at-ahead.result.place _ c.count_at-ahead.result.count c.count_at-ahead.ensures.front c.if-place-text.true refl (sym c.if-is_prefix.ensures)
