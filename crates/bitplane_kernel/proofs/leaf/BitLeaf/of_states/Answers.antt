use Rattle.std.proofs.Common.{◌≡◌, ◌∙◌, refl, arith}
use Rattle.bitplane_kernel.proofs.LeafLemmas.{digits_none, digits_more, states_back}
use Rattle.bitplane_kernel.proofs.leaf.BitLeaf.of_states.Goals as goal

pub loop-p-init : goal.loop-p-init
loop-p-init c = digits_none c.args.states.now _ refl

pub loop-p-preserved : goal.loop-p-preserved
loop-p-preserved c = digits_more c.loop-p.p c.args.states.now c.loop-p.planes c.digits.result c.loop-p-test.true c.loop-p.invariant c.digits.ensures

pub returns : goal.returns
returns c =
    let all : c.loop-p.p ≡ 8 = omega arith in
    c.of_planes.ensures ∙ states_back c.loop-p.p c.args.states.now c.loop-p.planes all c.told-states (λ i h. c.fits-states i) c.loop-p.invariant
