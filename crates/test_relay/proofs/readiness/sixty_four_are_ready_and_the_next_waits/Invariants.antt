use Rattle.std.specs.Arc.{arc_value}
use Rattle.test_relay.proofs.readiness.sixty_four_are_ready_and_the_next_waits.Given as goal

-- the board and the inbox that were just opened
abbrev pub ghosts-filled : goal.ghosts-filled
ghosts-filled g a = record { origin = a.opened.publisher.origin; inbox = (arc_value a.opened.drain.queue).table.shared.table_id }
