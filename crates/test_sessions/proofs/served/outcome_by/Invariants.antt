use Rattle.std.specs.Arc.{arc_value}
use Rattle.test_sessions.proofs.served.outcome_by.Given as goal

-- the board and the inbox that were just opened
abbrev pub ghosts-serves : goal.ghosts-serves
ghosts-serves g a = record { origin = a.opened.publisher.origin; inbox = (arc_value a.opened.drain.queue).table.shared.table_id }
