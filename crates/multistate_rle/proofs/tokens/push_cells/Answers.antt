use Rattle.std.proofs.Common.{◌∙◌, ap, sym, ◌++◌, append_assoc, arith}
use Rattle.multistate_rle.proofs.RowLemmas.{row_step}
use Rattle.multistate_rle.proofs.tokens.push_cells.Goals as goal

pub loop-at-preserved : goal.loop-at-preserved
loop-at-preserved c = record {
  drawn = rw (c.push_reserved.ensures.items, append_assoc)
      (sym (ap (λ cells. c.loop-at.cells.items ++ cells) (row_step _ c.loop-at.at c.args.state c.args.row c.loop-at-test.true)) ∙ c.loop-at.invariant.drawn);
  room = rw (c.push_reserved.ensures.len, c.push_reserved.ensures.capacity) (omega (arith, c.loop-at.invariant.room, c.loop-at-test.true));
}
