use Rattle.bitplane_kernel.proofs.PlaneLemmas.{equal_none, equal_more}
use Rattle.bitplane_kernel.proofs.planes.where_equal.Goals as goal

pub loop-p-init : goal.loop-p-init
loop-p-init N c = equal_none c.args.planes.now c.args.number c.all-cells.result c.all-cells.ensures

pub loop-p-preserved : goal.loop-p-preserved
loop-p-preserved N c =
    equal_more c.loop-p.p c.args.planes.now c.args.number c.loop-p.cells c.where_digit.result c.and-cells.result
    c.loop-p.invariant c.where_digit.ensures c.and-cells.ensures
