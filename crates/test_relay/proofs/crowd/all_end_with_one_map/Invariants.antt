use Rattle.std.specs.Arc.{arc_value}
use Rattle.test_relay.proofs.crowd.all_end_with_one_map.Given as goal

-- the board and the inbox that were just opened
abbrev pub ghosts-draws_together : goal.ghosts-draws_together
ghosts-draws_together g a = record { origin = a.opened.publisher.origin; inbox = (arc_value a.opened.drain.queue).table.shared.table_id }
