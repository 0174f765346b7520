use Rattle.std.specs.Arc.{arc_value}
use Rattle.test_relay.proofs.numbers.seats_are_numbered_from_the_first_on.Given as goal

-- the board and the inbox that were just opened
abbrev pub ghosts-comes_to : goal.ghosts-comes_to
ghosts-comes_to g a = record { origin = a.opened.publisher.origin; inbox = (arc_value a.opened.drain.queue).table.shared.table_id }
