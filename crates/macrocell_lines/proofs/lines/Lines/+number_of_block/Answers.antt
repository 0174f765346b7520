use Rattle.std.proofs.Common.{arith}
use Rattle.bitplane_kernel.specs.Square.{state_at}
use Rattle.macrocell_lines.proofs.Blocks.{block_cell, block_walked}
use Rattle.macrocell_lines.proofs.Walked.{ok_then, put_told}
use Rattle.macrocell_lines.proofs.lines.Lines.+number_of_block.Goals as goal

pub returns-then-block-eq0 : goal.returns-then-block-eq0
returns-then-block-eq0 t c = λ meaning. block_cell meaning c.args.self.now c.args.states.now c.args.block.level c.args.block.column c.args.block.row c.from.result c.if-block-eq0.true c.from.ensures

pub returns : goal.returns
returns t c =
    ok_then c.put.result (λ n put meaning. block_walked meaning _ _ _ _ _ _ (state_at 8 c.args.states.now) c.args.block.level c.args.block.column c.args.block.row c.half_of-half.result _ _ _ _ _ _ _ _ _ _ _ _ _ _ _ _ n
    (omega (arith, c.if-block-eq0.false)) c.half_of-half.ensures.half
    (record { level_is = c.quarter.ensures.level; column_is = c.quarter.ensures.column; row_is = c.quarter.ensures.row })
    (record { level_is = c.quarter-2.ensures.level; column_is = c.quarter-2.ensures.column; row_is = c.quarter-2.ensures.row })
    (record { level_is = c.quarter-3.ensures.level; column_is = c.quarter-3.ensures.column; row_is = c.quarter-3.ensures.row })
    (record { level_is = c.quarter-4.ensures.level; column_is = c.quarter-4.ensures.column; row_is = c.quarter-4.ensures.row })
    (c.in_ok-nw.ensures meaning) (c.in_ok-ne.ensures meaning) (c.in_ok-sw.ensures meaning) (c.in_ok-se.ensures meaning) put)
    (put_told c.put.result _ _ _ c.put.ensures.number c.put.ensures.lines c.put.ensures.numbers)
