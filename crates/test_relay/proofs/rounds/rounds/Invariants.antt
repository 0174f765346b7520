use Rattle.std.specs.Arc.{arc_value}
use Rattle.test_relay.proofs.rounds.rounds.Given as goal

-- the board and the inbox that were just opened
abbrev pub ghosts-is_accounted : goal.ghosts-is_accounted
ghosts-is_accounted g a = record { origin = a.opened.publisher.origin; inbox = (arc_value a.opened.drain.queue).table.shared.table_id }
