use Rattle.std.specs.Arc.{arc_value}
use Rattle.test_keeper.proofs.commits.sixty_four_are_committed_by_one_sync.Given as goal

-- the board and the inbox that were just opened
abbrev pub ghosts-many_edits : goal.ghosts-many_edits
ghosts-many_edits g a = record { origin = a.board.publisher.origin; inbox = (arc_value a.board.drain.queue).table.shared.table_id }
