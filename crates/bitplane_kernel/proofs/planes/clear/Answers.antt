use Rattle.std.proofs.Common.{◌<◌, arith, length}
use Rattle.bitplane_kernel.proofs.PlaneLemmas.{cleared_none, cleared_more}
use Rattle.bitplane_kernel.proofs.planes.clear.Goals as goal

pub loop-p-init : goal.loop-p-init
loop-p-init N c = cleared_none c.args.planes.now c.args.cells

pub loop-p-preserved : goal.loop-p-preserved
loop-p-preserved N c =
    let within : c.loop-p.p < length c.args.planes.now = omega arith in
    cleared_more c.loop-p.p _ _ _ _ _ within c.loop-p.invariant c.not-others.ensures c.and.ensures

pub returns : goal.returns
returns N c = record {
  cleared = λ p x y small hx hy. c.loop-p.invariant.cleared p x y (omega arith) hx hy;
  rest = λ p h. c.loop-p.invariant.rest p (omega arith);
}
