use Rattle.std.specs.Arc.{arc_value}
use Rattle.test_relay.proofs.pairs.a_third_seat_is_handed_what_two_draw.Given as goal

-- the board and the inbox that were just opened
abbrev pub ghosts-draws_apart : goal.ghosts-draws_apart
ghosts-draws_apart g a = record { origin = a.opened.publisher.origin; inbox = (arc_value a.opened.drain.queue).table.shared.table_id }
