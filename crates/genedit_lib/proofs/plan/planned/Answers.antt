use Rattle.std.proofs.Common.{◌≡◌, ◌∷◌, refl, ◌∙◌, sym, ap, length, arith}
use Rattle.std.specs.Vec.Iter.{into_iter_items}
use Rattle.genedit_lib.specs.Patterns.{pattern_in}
use Rattle.genedit_lib.specs.Plan.{step_of}
use Rattle.genedit_lib.proofs.PlanLaws.{event_planned, line_planned, no_event_planned, steps_on}
use Rattle.genedit_lib.proofs.plan.planned.Goals as goal

pub loop-command-preserved-in-Continue-branch-4 : goal.loop-command-preserved-in-Continue-branch-4
loop-command-preserved-in-Continue-branch-4 c =
    let at = c.loop-command in
    let taken : into_iter_items at.command-iterator ≡ c.in-Some.command ∷ into_iter_items c.next.new.self = c.in-Some.ensures.steps.0 in
    let short = ap length taken in
    let gone = c.in-Some.ensures.steps.1 in
    let was = at.invariant.2 in
    let now = steps_on (pattern_in at.patterns) (pattern_in c.next_step.new.patterns) (into_iter_items at.command-iterator) (into_iter_items c.next.new.self)
    c.in-Some.command _ taken (ap step_of (sym c.in-Happens.is) ∙ c.in_ok-event.ensures.step) c.in_ok-event.ensures.after in (
      event_planned at.events.items _ _ _ _ c.in-Happens.event at.invariant.0 now c.in_ok-push-in-Happens.ensures.items,
      line_planned at.lines.items _ _ _ _ _ _ at.invariant.1 now c.in_ok-push-in-Happens-2.ensures.items refl,
      omega arith,
    )

pub loop-command-preserved : goal.loop-command-preserved
loop-command-preserved c =
    let at = c.loop-command in
    let taken : into_iter_items at.command-iterator ≡ c.in-Some.command ∷ into_iter_items c.next.new.self = c.in-Some.ensures.steps.0 in
    let short = ap length taken in
    let gone = c.in-Some.ensures.steps.1 in
    let was = at.invariant.2 in
    let now = steps_on (pattern_in at.patterns) (pattern_in c.next_step.new.patterns) (into_iter_items at.command-iterator) (into_iter_items c.next.new.self)
    c.in-Some.command _ taken (ap step_of (sym c.in-Says.is) ∙ c.in_ok-event.ensures.step) c.in_ok-event.ensures.after in (
      no_event_planned at.events.items _ _ _ c.in-Says.text at.invariant.0 now,
      line_planned at.lines.items _ _ _ _ _ _ at.invariant.1 now c.in_ok-push-in-Says.ensures.items refl,
      omega arith,
    )
