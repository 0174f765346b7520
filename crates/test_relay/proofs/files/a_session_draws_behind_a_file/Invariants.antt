use Rattle.std.specs.Arc.{arc_value}
use Rattle.test_relay.proofs.files.a_session_draws_behind_a_file.Given as goal

-- the board and the inbox that were just opened
abbrev pub ghosts-is_mixed : goal.ghosts-is_mixed
ghosts-is_mixed g a = record { origin = a.opened.publisher.origin; inbox = (arc_value a.opened.drain.queue).table.shared.table_id }
