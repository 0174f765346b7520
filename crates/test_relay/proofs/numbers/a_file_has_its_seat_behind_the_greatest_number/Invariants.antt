use Rattle.std.specs.Arc.{arc_value}
use Rattle.test_relay.proofs.numbers.a_file_has_its_seat_behind_the_greatest_number.Given as goal

-- the board and the inbox that were just opened
abbrev pub ghosts-numbers : goal.ghosts-numbers
ghosts-numbers g a = record { origin = a.opened.publisher.origin; inbox = (arc_value a.opened.drain.queue).table.shared.table_id }
