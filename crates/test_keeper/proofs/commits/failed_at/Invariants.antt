use Rattle.std.specs.Arc.{arc_value}
use Rattle.test_keeper.proofs.commits.failed_at.Given as goal

-- the board and the inbox that were just opened
abbrev pub ghosts-fails : goal.ghosts-fails
ghosts-fails g a = record { origin = a.board.publisher.origin; inbox = (arc_value a.board.drain.queue).table.shared.table_id }
