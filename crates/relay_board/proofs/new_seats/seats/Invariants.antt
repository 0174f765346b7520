use Rattle.std.proofs.Common.{◌≡◌, length}
use Rattle.std.specs.Arc.{arc_value}
use Rattle.crossbeam_queue.specs.Passes.{view, ruled_capacity}
use Rattle.relay_board.specs.Seating.{AllFresh}
use Rattle.relay_board.proofs.new_seats.seats.Given as goal

abbrev pub invariant-loop-place : goal.invariant-loop-place
invariant-loop-place g l =
    (l.publisher ≡ l.fn.publisher) × (l.drain.queue ≡ l.fn.drain.queue) × (l.drain.empties ≡ l.fn.drain.empties) × ((view l.drain.pass).label ≡ (view l.fn.drain.pass).label) × ((view l.drain.pass).out ≡ (view l.fn.drain.pass).out) × ((view l.drain.pass).known ≡ (view l.fn.drain.pass).known)
    × AllFresh l.fn.plan.first l.fn.plan.rule (ruled_capacity (arc_value l.fn.drain.queue)) 0 l.seats.items × (length l.seats.items ≡ l.place) × ((view l.drain.pass).made ≡ l.place)
