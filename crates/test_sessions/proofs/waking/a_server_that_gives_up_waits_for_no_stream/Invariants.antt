use Rattle.std.specs.Arc.{arc_value}
use Rattle.test_sessions.proofs.waking.a_server_that_gives_up_waits_for_no_stream.Given as goal

-- the board and the inbox that were just opened
abbrev pub ghosts-ended : goal.ghosts-ended
ghosts-ended g a = record { origin = a.opened.publisher.origin; inbox = (arc_value a.opened.drain.queue).table.shared.table_id }
