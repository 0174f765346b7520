use Rattle.std.proofs.Common.{◌≡◌, ◌<◌, arith, length}
use Rattle.bitplane_kernel.proofs.PlaneLemmas.{added_none, added_more, added_all}
use Rattle.bitplane_kernel.proofs.planes.add_one.Goals as goal

pub loop-p-init : goal.loop-p-init
loop-p-init N c = added_none c.args.planes.now c.args.cells

pub loop-p-preserved : goal.loop-p-preserved
loop-p-preserved N c =
    let within : c.loop-p.p < length c.args.planes.now = omega arith in
    added_more c.loop-p.p _ _ _ _ _ _ within c.loop-p.invariant c.sum_of_two-sum.ensures

pub returns : goal.returns
returns N c =
    let end : c.loop-p.p ≡ N.row.N = omega arith in
    added_all N.row.N c.loop-p.p _ _ _ _ end c.loop-p.invariant
