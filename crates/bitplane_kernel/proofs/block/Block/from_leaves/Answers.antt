use Rattle.std.proofs.Common.{◌≡◌, refl, arith}
use Rattle.bitplane_kernel.proofs.LeafLemmas.{joined_none, joined_more, joined_all}
use Rattle.bitplane_kernel.proofs.SquareLemmas.{block_length}
use Rattle.bitplane_kernel.proofs.block.Block.from_leaves.Goals as goal

pub loop-p-init : goal.loop-p-init
loop-p-init c = joined_none c.args.nw.now c.args.ne.now c.args.sw.now c.args.se.now _ refl

pub loop-p-preserved : goal.loop-p-preserved
loop-p-preserved c =
    joined_more c.loop-p.p c.args.nw.now c.args.ne.now c.args.sw.now c.args.se.now c.loop-p.planes _ _ _ _ _ c.loop-p-test.true c.loop-p.invariant
    (record { digits = c.plane.ensures.digits; below = c.plane.ensures.below }) (record { digits = c.plane-in-loop-p.ensures.digits; below = c.plane-in-loop-p.ensures.below })
    (record { digits = c.plane-in-loop-p-2.ensures.digits; below = c.plane-in-loop-p-2.ensures.below }) (record { digits = c.plane-in-loop-p-3.ensures.digits; below = c.plane-in-loop-p-3.ensures.below })
    c.joined.ensures

pub returns-clause-states : goal.returns-clause-states
returns-clause-states c =
    let all : c.loop-p.p ≡ 8 = omega arith in
    joined_all c.loop-p.p c.args.nw.now c.args.ne.now c.args.sw.now c.args.se.now c.loop-p.planes all c.loop-p.invariant

pub returns-clause-side : goal.returns-clause-side
returns-clause-side c = block_length c.loop-p.planes
