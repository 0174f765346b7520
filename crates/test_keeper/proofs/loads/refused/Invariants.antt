use Rattle.std.specs.Arc.{arc_value}
use Rattle.test_keeper.proofs.loads.refused.Given as goal

-- the board and the inbox that were just opened
abbrev pub ghosts-unkept : goal.ghosts-unkept
ghosts-unkept g a = record { origin = a.board.publisher.origin; inbox = (arc_value a.board.drain.queue).table.shared.table_id }
