use Rattle.std.specs.Arc.{arc_value}
use Rattle.test_keeper.proofs.commits.what_is_answered_stands_in_the_file.Given as goal

-- the board and the inbox that were just opened
abbrev pub ghosts-one_edit : goal.ghosts-one_edit
ghosts-one_edit g a = record { origin = a.board.publisher.origin; inbox = (arc_value a.board.drain.queue).table.shared.table_id }
