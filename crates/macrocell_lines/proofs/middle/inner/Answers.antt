use Rattle.std.proofs.Common.{arith}
use Rattle.macrocell_lines.proofs.Rows.{listed}
use Rattle.macrocell_lines.proofs.Middles.{inner_middle}
use Rattle.macrocell_lines.proofs.middle.inner.Goals as goal

pub returns-clause-middle : goal.returns-clause-middle
returns-clause-middle c =
    inner_middle c.args.store.now c.args.root c.args.middle c.quarters-nw.result c.quarters-ne.result c.quarters-sw.result c.quarters-se.result c.requires.above c.requires.most c.requires.middle
    c.quarters-nw.ensures c.quarters-ne.ensures c.quarters-sw.ensures c.quarters-se.ensures _ _ _ _
    (listed _ c.quarters-nw.ensures.four 3 c.index-nw-3.result (omega arith)) (listed _ c.quarters-ne.ensures.four 2 c.index-ne-2.result (omega arith))
    (listed _ c.quarters-sw.ensures.four 1 c.index-sw-1.result (omega arith)) (listed _ c.quarters-se.ensures.four 0 c.index-se-0.result (omega arith))
