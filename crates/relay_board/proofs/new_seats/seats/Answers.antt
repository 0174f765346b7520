use Rattle.std.proofs.Common.{◌+◌, ap, ◌∙◌, ◌∷◌, [], length-append, arith}
use Rattle.std.specs.Arc.{arc_value}
use Rattle.crossbeam_queue.specs.Passes.{ruled_capacity}
use Rattle.relay_board.specs.Seating.{fresh}
use Rattle.relay_board.proofs.Ending.{fresh_more}
use Rattle.relay_board.proofs.new_seats.seats.Goals as goal

pub loop-place-preserved : goal.loop-place-preserved
loop-place-preserved g c =
    let i = c.loop-place.invariant in
    let s = c.in_ok-next.ensures in
    let capacity = ruled_capacity (arc_value c.args.drain.now.queue) in
    let next = s.fresh ∙ ap (λ q. fresh c.args.plan.now.first c.loop-place.place c.args.plan.now.rule (ruled_capacity (arc_value q))) i.1 in (
      s.publisher ∙ i.0,
      s.drain.0 ∙ i.1,
      s.drain.1 ∙ i.2,
      s.drain.2 ∙ i.3,
      s.drain.3 ∙ i.4,
      s.drain.4 ∙ i.5,
      rw c.in_ok-push.ensures.items (fresh_more c.args.plan.now.first c.args.plan.now.rule capacity 0 c.loop-place.place c.loop-place.seats.items c.in_ok-next.next i.6 (omega (arith, i.7)) next),
      rw c.in_ok-push.ensures.items (length-append c.loop-place.seats.items (c.in_ok-next.next ∷ []) ∙ ap (λ k. k + 1) i.7),
      s.made,
    )
