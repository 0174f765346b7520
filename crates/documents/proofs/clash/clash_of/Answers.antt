use Rattle.std.proofs.Common.{refl}
use Rattle.documents.proofs.Walks.{all_agree, clash_found, passed_on}
use Rattle.documents.proofs.clash.clash_of.Goals as goal

pub returns-in-Some-stamp_of_two-clause-some : goal.returns-in-Some-stamp_of_two-clause-some
returns-in-Some-stamp_of_two-clause-some c =
    clash_found c.args.first.now c.args.second.now c.loop-step.left.now c.loop-step.right.now c.in-Some.step.left.now c.in-Some.step.right.now c.in-Some.step.next c.in-Some-stamp_of_two.stamp
    c.loop-step.invariant c.in-Some.ensures.some c.in-Some-stamp_of_two.ensures.some

pub loop-step-preserved : goal.loop-step-preserved
loop-step-preserved c =
    passed_on c.args.first.now c.args.second.now c.loop-step.left.now c.loop-step.right.now c.in-Some.step.left.now c.in-Some.step.right.now c.in-Some.step.next
    c.loop-step.invariant c.in-Some.ensures.some (c.in_default-stamp_of_two.ensures.none refl)

pub returns-clause-none : goal.returns-clause-none
returns-clause-none c none =
    let ends = c.in_default.ensures.none refl in
    all_agree c.args.first.now c.args.second.now c.loop-step.left.now c.loop-step.right.now c.loop-step.invariant ends.0 ends.1
