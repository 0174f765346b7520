use Rattle.std.proofs.Common.{arith}
use Rattle.drawing_history.proofs.Dropping.{first_dropped}
use Rattle.drawing_history.proofs.stack.Stack.drop_oldest.Goals.{then-len-gt-MOST_DRAWINGS, else-len-gt-MOST_DRAWINGS+then-cells-gt-MOST_CELLS}
use Rattle.drawing_history.proofs.stack.Stack.drop_oldest.Goals as goal

pub loop-self-preserved : goal.loop-self-preserved
loop-self-preserved c =
    first_dropped c.args.self.now c.loop-self.self c.drop_first.new.self c.loop-self.invariant
    (λ within. elim c.if-len-gt-MOST_DRAWINGS.branch [
      | then-len-gt-MOST_DRAWINGS w ↦ omega (arith, w.if-len-gt-MOST_DRAWINGS.true, c.len.ensures, within.count)
      | else-len-gt-MOST_DRAWINGS+then-cells-gt-MOST_CELLS w ↦ omega (arith, w.if-cells-gt-MOST_CELLS.true, w.cells.ensures, within.cells)
    ])
    c.drop_first.ensures
