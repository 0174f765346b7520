use Rattle.std.specs.Arc.{arc_value}
use Rattle.test_relay.proofs.steps.an_edit_goes_from_seat_to_seat.Given as goal

-- the board and the inbox that were just opened
abbrev pub ghosts-goes : goal.ghosts-goes
ghosts-goes g a = record { origin = a.opened.publisher.origin; inbox = (arc_value a.opened.drain.queue).table.shared.table_id }
