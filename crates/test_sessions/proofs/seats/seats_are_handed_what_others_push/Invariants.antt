use Rattle.std.specs.Arc.{arc_value}
use Rattle.test_sessions.proofs.seats.seats_are_handed_what_others_push.Given as goal

-- the board and the inbox that were just opened
abbrev pub ghosts-talks : goal.ghosts-talks
ghosts-talks g a = record { origin = a.opened.publisher.origin; inbox = (arc_value a.opened.drain.queue).table.shared.table_id }
