use Rattle.std.proofs.Common.{◌≡◌, ◌∙◌, ap, refl, arith, subst, sym, length}
use Rattle.bitplane_kernel.specs.Planes.{block_states}
use Rattle.bitplane_kernel.specs.Square.{IsCentre}
use Rattle.bitplane_kernel.proofs.LeafLemmas.{middle_none, middle_more, middle_all}
use Rattle.bitplane_kernel.specs.Digits.{leaf_length}
use Rattle.bitplane_kernel.proofs.block.Block.centre.Goals as goal

pub loop-p-init : goal.loop-p-init
loop-p-init c = middle_none c.self.inside.planes _ refl

pub loop-p-preserved : goal.loop-p-preserved
loop-p-preserved c = middle_more c.loop-p.p c.self.inside.planes c.loop-p.leaf c.middle.result c.loop-p-test.true c.loop-p.invariant c.middle.ensures

pub returns-clause-states : goal.returns-clause-states
returns-clause-states c =
    let all : c.loop-p.p ≡ 8 = omega arith in
    subst (λ states. IsCentre states c.of_planes.result) c.self.view_is
    (subst (IsCentre (block_states c.self.inside.planes)) (sym c.of_planes.ensures) (middle_all c.loop-p.p c.self.inside.planes c.loop-p.leaf all c.loop-p.invariant))

pub returns-clause-side : goal.returns-clause-side
returns-clause-side c = ap length c.of_planes.ensures ∙ leaf_length c.loop-p.leaf
