use Rattle.std.specs.Arc.{arc_value}
use Rattle.test_relay.proofs.ending.what_is_not_whole_is_told.Given as goal

-- the board and the inbox that were just opened
abbrev pub ghosts-all_asked : goal.ghosts-all_asked
ghosts-all_asked g a = record { origin = a.opened.publisher.origin; inbox = (arc_value a.opened.drain.queue).table.shared.table_id }
