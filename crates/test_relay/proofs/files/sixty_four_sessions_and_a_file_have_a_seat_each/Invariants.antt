use Rattle.std.specs.Arc.{arc_value}
use Rattle.test_relay.proofs.files.sixty_four_sessions_and_a_file_have_a_seat_each.Given as goal

-- the board and the inbox that were just opened
abbrev pub ghosts-ends : goal.ghosts-ends
ghosts-ends g a = record { origin = a.opened.publisher.origin; inbox = (arc_value a.opened.drain.queue).table.shared.table_id }
