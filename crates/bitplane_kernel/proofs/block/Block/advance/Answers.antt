use Rattle.std.proofs.Common.{◌≡◌, arith, subst}
use Rattle.bitplane_kernel.specs.Planes.{block_states}
use Rattle.bitplane_kernel.specs.Advance.{Advances}
use Rattle.bitplane_kernel.proofs.AdvanceLemmas.{advances_none, advances_more, steps_in_maps}
use Rattle.bitplane_kernel.proofs.SquareLemmas.{block_length}
use Rattle.bitplane_kernel.proofs.block.Block.advance.Goals as goal

pub loop-done-init : goal.loop-done-init
loop-done-init c = advances_none c.args.rule.now (block_states c.self.inside.planes)

pub loop-done-preserved : goal.loop-done-preserved
loop-done-preserved c =
    advances_more c.args.rule.now c.loop-done.done (block_states c.self.inside.planes) (block_states c.loop-done.self-inside.planes) (block_states c.step.new.planes)
    c.step.ensures.rule c.loop-done.invariant (steps_in_maps c.args.rule.now c.loop-done.self-inside.planes c.step.new.planes c.step.ensures.steps)

pub returns-clause-states : goal.returns-clause-states
returns-clause-states c =
    let all : c.loop-done.done ≡ c.args.g = omega arith in
    subst (λ states. Advances c.args.rule.now c.args.g states (block_states c.loop-done.self-inside.planes)) c.self.view_is
    (subst (λ g. Advances c.args.rule.now g (block_states c.self.inside.planes) (block_states c.loop-done.self-inside.planes)) all c.loop-done.invariant)

pub returns-clause-side : goal.returns-clause-side
returns-clause-side c = block_length c.loop-done.self-inside.planes
