use Rattle.std.specs.Arc.{arc_value}
use Rattle.test_keeper.proofs.crashes.course_from.Given as goal

-- the board and the inbox that were just opened
abbrev pub ghosts-lived : goal.ghosts-lived
ghosts-lived g a = record { origin = a.board.publisher.origin; inbox = (arc_value a.board.drain.queue).table.shared.table_id }
