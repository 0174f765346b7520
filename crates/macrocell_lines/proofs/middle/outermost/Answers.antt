use Rattle.std.proofs.Common.{arith}
use Rattle.macrocell_lines.proofs.Rows.{listed}
use Rattle.macrocell_lines.proofs.Middles.{outermost_middle}
use Rattle.macrocell_lines.proofs.middle.outermost.Goals as goal

pub returns-clause-middle : goal.returns-clause-middle
returns-clause-middle c =
    let four = c.quarters.ensures.four in
    outermost_middle c.args.store.now c.args.root c.quarters.result _ _ _ _ c.requires c.quarters.ensures (listed _ four 0 c.index-quarters-0.result (omega arith)) (listed _ four 1 c.index-quarters-1.result (omega arith))
    (listed _ four 2 c.index-quarters-2.result (omega arith)) (listed _ four 3 c.index-quarters-3.result (omega arith))
