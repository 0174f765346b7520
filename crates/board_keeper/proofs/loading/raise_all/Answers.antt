use Rattle.std.proofs.Common.{◌≡◌, sym, ap, ◌∙◌, arith, Some}
use Rattle.document_bodies.specs.Counters.{counter_of}
use Rattle.relay_board.specs.Seating.{Seating}
use Rattle.board_keeper.specs.Loading.{raised}
use Rattle.board_keeper.proofs.Loads.{raise_next}
use Rattle.board_keeper.proofs.loading.raise_all.Goals as goal

pub loop-seat-preserved : goal.loop-seat-preserved
loop-seat-preserved g c =
    let x : Seating = c.seat-item.result in
    let item = sym c.seat-item.is in
    let floor = c.of.ensures ∙ ap (counter_of c.args.newest.now) (c.number.ensures ∙ ap (λ (s : Seating). s.number) item) in
    let new : c.keep_above.new.self ≡ raised c.args.newest.now x = c.keep_above.ensures ∙ (λ j. record (item j) { floor = Some (floor j) }) in
    raise_next (raised c.args.newest.now) c.args.seats.now c.loop-seat.seats c.loop-seat.seat-index x c.keep_above.new.self c.loop-seat.invariant (omega (arith, c.loop-seat-test.true, c.loop-seat.auto.seats)) c.seat-item.is new
