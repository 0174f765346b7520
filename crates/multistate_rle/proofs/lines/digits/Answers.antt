use Rattle.std.proofs.Common.{ap, sym, length}
use Rattle.multistate_rle.proofs.FillLemmas.{short_count}
use Rattle.multistate_rle.proofs.lines.digits.Goals as goal

pub returns-else-is_left_out-clause-value : goal.returns-else-is_left_out-clause-value
returns-else-is_left_out-clause-value c = ap length (sym (short_count c.args.count c.requires (sym c.if-is_left_out.ensures)))
