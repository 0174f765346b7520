use Rattle.std.proofs.Common.{◌≡◌, ℕ, ◌+◌, cond, arith, subst}
use Rattle.documents.specs.Walk.{is_new_next}
use Rattle.documents.proofs.Counts.{IsCounted, counted_on}
use Rattle.documents.proofs.count.count_new.Goals as goal
use Rattle.documents.proofs.count.count_new.Goals.{then-is_new, else-is_new}

pub loop-step-preserved : goal.loop-step-preserved
loop-step-preserved c =
    let on : IsCounted c.args.first.now c.args.second.now (c.loop-step.count + cond (is_new_next c.in-Some.step.next) 1 0) c.in-Some.step.left.now c.in-Some.step.right.now =
    counted_on c.args.first.now c.args.second.now c.loop-step.count c.loop-step.left.now c.loop-step.right.now c.in-Some.step.left.now c.in-Some.step.right.now c.in-Some.step.next c.loop-step.invariant c.in-Some.ensures.some in
    let n : c.loop-step.count + cond (is_new_next c.in-Some.step.next) 1 0 ≡ c.if-is_new.count = elim c.if-is_new.branch [
      | then-is_new w ↦ grind arith
      | else-is_new w ↦ grind arith
    ] in
    subst (λ (k : ℕ). IsCounted c.args.first.now c.args.second.now k c.in-Some.step.left.now c.in-Some.step.right.now) n on
