use Rattle.std.specs.Arc.{arc_value}
use Rattle.test_keeper.proofs.loads.numbers_from_100_on_go_on_above_their_own_counters.Given as goal

-- the board and the inbox that were just opened
abbrev pub ghosts-goes_on : goal.ghosts-goes_on
ghosts-goes_on g a = record { origin = a.board.publisher.origin; inbox = (arc_value a.board.drain.queue).table.shared.table_id }
